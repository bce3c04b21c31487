use Rattle.std.proofs.Common.{◌≡◌, ◌++◌, refl, sym, ap, ◌∙◌, w32, to_z, of_z, rules}
use Rattle.std.proofs.lemmas.List.{append-nil, at_drop_all}
use Rattle.zk_table.specs.Answers.{plain_answer}
use Rattle.zk_table.specs.Multis.{answers_of, first_refusal}
use Rattle.zk_machine.specs.Changes.{part_changes}
use Rattle.zk_machine.specs.Undoing.{nodes_before}
use Rattle.zk_machine.proofs.PreimageLaws.{before_nothing}
use Rattle.zk_machine.proofs.Parts.{nodes_next, answers_next, changes_next, notes_next}
use Rattle.zk_machine.proofs.noted_tree.NotedTree.apply_parts.Goals as goal

pub loop-part-init : goal.loop-part-init
loop-part-init c = (
  refl,
  ap (λ l. l ++ answers_of c.args.txn.now c.args.self.now.tree c.args.parts.now) c.new-answers.ensures.items,
  ap (λ l. l ++ part_changes c.args.txn.now c.args.self.now.tree c.args.parts.now) c.new-changes.ensures.items,
  ap (λ t. nodes_before t c.args.self.now.tree) c.new-touched.ensures ∙ before_nothing c.args.self.now.tree,
)

pub loop-part-preserved : goal.loop-part-preserved
loop-part-preserved c = (
  nodes_next c.args.txn.now c.args.parts.now c.loop-part.part-index c.part-item.result c.loop-part-test.true (sym c.part-item.is) c.loop-part.self.tree c.part_deed.new.self.tree c.in_ok-deed.deed.answer c.in_ok-deed.ensures.done
      ∙ c.loop-part.invariant.0,
  answers_next c.args.txn.now c.args.parts.now c.loop-part.part-index c.part-item.result c.loop-part-test.true (sym c.part-item.is) c.loop-part.self.tree c.part_deed.new.self.tree c.in_ok-deed.deed.answer c.in_ok-deed.ensures.done c.loop-part.answers.items c.push.new.self.items c.in_ok-push.ensures.items
      ∙ c.loop-part.invariant.1,
  changes_next c.args.txn.now c.args.parts.now c.loop-part.part-index c.part-item.result c.loop-part-test.true (sym c.part-item.is) c.loop-part.self.tree c.part_deed.new.self.tree c.in_ok-deed.deed.answer c.in_ok-deed.ensures.done c.loop-part.changes.items c.in_ok-deed.deed.changes.items c.in_ok-deed.ensures.changes c.append.new.self.items c.in_ok-append.ensures.items
      ∙ c.loop-part.invariant.2,
  notes_next c.loop-part.touched c.in_ok-deed.deed.touched c.note_all.new.self c.loop-part.self.tree c.part_deed.new.self.tree c.in_ok-note_all.ensures c.in_ok-deed.ensures.before
      ∙ c.loop-part.invariant.3,
)

pub returns-clause-answer : goal.returns-clause-answer
returns-clause-answer c =
    let read : to_z w32 (of_z w32 c.first_refusal.result) ≡ c.first_refusal.result = search rules in
    let answers = sym (append-nil c.loop-part.answers.items)
    ∙ ap (λ l. c.loop-part.answers.items ++ l) (sym (at_drop_all (answers_of c.args.txn.now c.loop-part.self.tree) c.args.parts.now c.loop-part.part-index c.loop-part-test.false))
    ∙ c.loop-part.invariant.1 in
    c.plain.ensures ∙ ap plain_answer (read ∙ c.first_refusal.ensures ∙ ap first_refusal (c.deref.ensures.value ∙ answers))
