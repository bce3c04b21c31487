use Rattle.std.proofs.Common.{◌≡◌, ℕ, ◌+◌, ◌<◌, List, [], ◌∷◌, ◌++◌, length, get_or, drop, sym, ap, ◌∙◌, append_assoc}
use Rattle.std.proofs.lemmas.List.{at_drop_more}
use Rattle.zk_table.specs.declared.result.PartResult.{PartResult}
use Rattle.zk_table.specs.declared.sub.Sub.{Sub}
use Rattle.zk_table.specs.declared.txn.Txn.{Txn}
use Rattle.zk_table.specs.Multis.{apply_part, nodes_after, answers_of}
use Rattle.zk_table.specs.States.{NodeMap}
use Rattle.zk_table.proofs.nodes.Nodes.apply_parts.Goals as goal

module _ (txn : Txn) (parts : List Sub) (at : ℕ) (part : Sub) (before after : NodeMap) (answer : PartResult) (below : at < length parts) (is : part ≡ get_or parts at part) (done : apply_part txn before part ≡ record { nodes = after; answer = answer }) where
  nodes_onward : nodes_after txn before (drop at parts) ≡ nodes_after txn after (drop (at + 1) parts)
  nodes_onward =
      at_drop_more (nodes_after txn before) parts at part below
      ∙ ap (λ p. nodes_after txn before (p ∷ drop (at + 1) parts)) (sym is)
      ∙ ap (λ d. nodes_after txn d.nodes (drop (at + 1) parts)) done

  answers_onward : answers_of txn before (drop at parts) ≡ answer ∷ answers_of txn after (drop (at + 1) parts)
  answers_onward =
      at_drop_more (answers_of txn before) parts at part below
      ∙ ap (λ p. answers_of txn before (p ∷ drop (at + 1) parts)) (sym is)
      ∙ ap (λ d. d.answer ∷ answers_of txn d.nodes (drop (at + 1) parts)) done

pub loop-part-preserved : goal.loop-part-preserved
loop-part-preserved c =
    let nodes = nodes_onward c.args.txn.now c.args.parts.now c.loop-part.part-index c.part-item.result c.loop-part.self c.apply_part.new.self c.in_ok-answer.answer c.loop-part-test.true c.part-item.is c.in_ok-answer.ensures in
    let answers = answers_onward c.args.txn.now c.args.parts.now c.loop-part.part-index c.part-item.result c.loop-part.self c.apply_part.new.self c.in_ok-answer.answer c.loop-part-test.true c.part-item.is c.in_ok-answer.ensures in
    let rest = answers_of c.args.txn.now c.apply_part.new.self (drop (c.loop-part.part-index + 1) c.args.parts.now) in (
      sym nodes ∙ c.loop-part.invariant.0,
      ap (λ l. l ++ rest) c.in_ok-push.ensures.items
          ∙ append_assoc c.loop-part.answers.items (c.in_ok-answer.answer ∷ []) rest
          ∙ ap (λ l. c.loop-part.answers.items ++ l) (sym answers)
          ∙ c.loop-part.invariant.1,
    )
