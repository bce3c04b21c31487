-- The parts of a multi, one by one.
use Rattle.std.proofs.Common.{◌≡◌, ℕ, ◌+◌, ◌<◌, List, [], ◌∷◌, ◌++◌, length, drop, get_or, sym, ap, ◌∙◌}
use Rattle.std.proofs.lemmas.List.{append_assoc, at_drop_more}
use Rattle.std.specs.FinMap.{entries}
use Rattle.zk_table.specs.declared.result.PartResult.{PartResult}
use Rattle.zk_table.specs.declared.sub.Sub.{Sub}
use Rattle.zk_table.specs.declared.txn.Txn.{Txn}
use Rattle.zk_table.specs.Multis.{apply_part, nodes_after, answers_of}
use Rattle.zk_table.specs.Operations.{Done}
use Rattle.zk_table.specs.States.{NodeMap}
use Rattle.zk_machine.specs.Changes.{changes_between, part_changes}
use Rattle.zk_machine.specs.Preimages.{all_noted}
use Rattle.zk_machine.specs.Undoing.{PreimageMap, nodes_before}
use Rattle.zk_machine.specs.declared.change.Change.{Change}
use Rattle.zk_machine.proofs.Merged.{back_merged}

module _ (txn : Txn) (parts : List Sub) (i : ℕ) (part : Sub) (within : i < length parts) (is : get_or parts i part ≡ part) (m n : NodeMap) (answer : PartResult) (done : apply_part txn m part ≡ record { nodes = n; answer = answer }) where
  cons : {A : Type 0} (F : List Sub → A) → F (part ∷ drop (i + 1) parts) ≡ F (drop i parts)
  cons F = sym (at_drop_more F parts i part within ∙ ap (λ p. F (p ∷ drop (i + 1) parts)) is)

  pub nodes_next : nodes_after txn n (drop (i + 1) parts) ≡ nodes_after txn m (drop i parts)
  nodes_next = ap (λ (d : Done). nodes_after txn d.nodes (drop (i + 1) parts)) (sym done) ∙ cons (nodes_after txn m)

  pub answers_next : (told all : List PartResult) → all ≡ told ++ answer ∷ [] → all ++ answers_of txn n (drop (i + 1) parts) ≡ told ++ answers_of txn m (drop i parts)
  answers_next told all both =
      ap (λ l. l ++ answers_of txn n (drop (i + 1) parts)) both
      ∙ append_assoc told (answer ∷ []) _
      ∙ ap (λ (d : Done). told ++ d.answer ∷ answers_of txn d.nodes (drop (i + 1) parts)) (sym done)
      ∙ ap (λ l. told ++ l) (cons (answers_of txn m))

  pub changes_next : (told more : List Change) → more ≡ changes_between m n → (all : List Change) → all ≡ told ++ more → all ++ part_changes txn n (drop (i + 1) parts) ≡ told ++ part_changes txn m (drop i parts)
  changes_next told more are all both =
      (λ j. (both ∙ ap (λ l. told ++ l) are) j ++ part_changes txn n (drop (i + 1) parts))
      ∙ append_assoc told (changes_between m n) _
      ∙ ap (λ (d : Done). told ++ (changes_between m d.nodes ++ part_changes txn d.nodes (drop (i + 1) parts))) (sym done)
      ∙ ap (λ l. told ++ l) (cons (part_changes txn m))

pub notes_next : (t more all : PreimageMap) (m n : NodeMap) → all ≡ all_noted t (entries more) → nodes_before more n ≡ m → nodes_before all n ≡ nodes_before t m
notes_next t more all m n both undone = ap (λ l. nodes_before l n) both ∙ back_merged t (entries more) n ∙ ap (nodes_before t) undone
