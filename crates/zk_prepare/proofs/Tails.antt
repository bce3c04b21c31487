-- The state that a committed one and a tail lead to.
use Rattle.std.proofs.Common.{◌≡◌, ℕ, List, [], ◌∷◌, ◌++◌, take, drop, refl, sym, ap, ◌∙◌}
use Rattle.std.proofs.lemmas.List.{take-append-drop}
use Rattle.zk_table.specs.declared.txn.Txn.{Txn}
use Rattle.zk_table.specs.Histories.{state_after}
use Rattle.zk_table.specs.States.{State}
use Rattle.zk_table.specs.Steps.{step}

pub state_after-append : (state : State) (first rest : List Txn) → state_after state (first ++ rest) ≡ state_after (state_after state first) rest
state_after-append state [] rest = refl
state_after-append state (txn ∷ first) rest = state_after-append (step state txn).0 first rest

-- what moves over to the committed state leaves where both lead
pub moved_over : (state : State) (tail : List Txn) (count : ℕ) → state_after state tail ≡ state_after (state_after state (take count tail)) (drop count tail)
moved_over state tail count = ap (state_after state) (sym (take-append-drop count tail)) ∙ state_after-append state (take count tail) (drop count tail)

-- one transaction more
pub taken_over : (state : State) (tail : List Txn) (txn : Txn) (old new : State) → new ≡ (step old txn).0 → old ≡ state_after state tail → new ≡ state_after state (tail ++ txn ∷ [])
taken_over state tail txn old new is was = is ∙ ap (λ s. (step s txn).0) was ∙ sym (state_after-append state tail (txn ∷ []))
