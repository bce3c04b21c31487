-- A walk one place further, or back.
use Rattle.std.proofs.Common.{◌≡◌, ℕ, zero, suc, ◌+◌, ◌-◌, ◌<◌, ◌⊎◌, inl, inr, List, [], ◌∷◌, ◌++◌, take, length, get_or, false, Some, refl, sym, ap, subst, ◌∙◌, arith, length-append}
use Rattle.std.specs.Prelude.{slice_get, option_map, unwrap_or, is_some}
use Rattle.std.proofs.lemmas.Bool.{false≢true}
use Rattle.std.proofs.lemmas.List.{take_more}
use Rattle.std.proofs.lemmas.Option.{slice_get-get_or}
use Rattle.zk_machine.specs.declared.applied.Applied.{Applied}
use Rattle.zk_machine.specs.Changes.{changes_of}
use Rattle.zk_machine.specs.Machines.{MachineView}
use Rattle.zk_machine.specs.Undoing.{IsState, restored}
use Rattle.zk_table.specs.declared.txn.Txn.{Txn}
use Rattle.zk_table.specs.Histories.{state_after}
use Rattle.zk_table.specs.States.{State}
use Rattle.zk_table.specs.Steps.{step}
use Rattle.zk_debug.specs.Debugging.{state_at, machine_at, txn_at, result_at, changes_at}
use Rattle.zk_debug.specs.Walks.{IsStepFrom, IsWalkTo, TakesStep}

-- ---- the state one transaction later

state_after-push : (s : State) (ts : List Txn) (t : Txn) → state_after s (ts ++ t ∷ []) ≡ (step (state_after s ts) t).0
state_after-push s [] t = refl
state_after-push s (x ∷ ts) t = state_after-push (step s x).0 ts t

state_at-next : (s : State) (ts : List Txn) (n : ℕ) (t : Txn) → n < length ts → t ≡ get_or ts n t → state_at s ts (n + 1) ≡ (step (state_at s ts n) t).0
state_at-next s ts n t h is = ap (state_after s) (take_more ts n t h) ∙ state_after-push s (take n ts) (get_or ts n t) ∙ ap (λ t. (step (state_at s ts n) t).0) (sym is)

-- ---- the stored steps

module _ {A : Type 0} where
  last_or_before : (xs : List A) (x : A) (at : ℕ) (y : A) → slice_get (xs ++ x ∷ []) at ≡ Some y → (slice_get xs at ≡ Some y) ⊎ ((length xs ≡ at) × (x ≡ y))
  last_or_before [] x zero y h = inr (refl, ap (λ o. unwrap_or o x) h)
  last_or_before [] x (suc at) y h = absurd (false≢true (ap is_some h))
  last_or_before (z ∷ xs) x zero y h = inl h
  last_or_before (z ∷ xs) x (suc at) y h =
      elim (last_or_before xs x at y h) as (λ _. (slice_get (z ∷ xs) (suc at) ≡ Some y) ⊎ ((length (z ∷ xs) ≡ suc at) × (x ≡ y))) [ inl e ↦ inl e | inr e ↦ inr (ap suc e.0, e.1) ]

  slice_get-before : (xs : List A) (x : A) (at : ℕ) (y : A) → slice_get xs at ≡ Some y → slice_get (xs ++ x ∷ []) at ≡ Some y
  slice_get-before [] x at y h = absurd (false≢true (ap is_some h))
  slice_get-before (z ∷ xs) x zero y h = h
  slice_get-before (z ∷ xs) x (suc at) y h = slice_get-before xs x at y h

  slice_get-last : (xs : List A) (x : A) → slice_get (xs ++ x ∷ []) (length xs) ≡ Some x
  slice_get-last [] x = refl
  slice_get-last (z ∷ xs) x = slice_get-last xs x

same_machine : (base : State) (m : MachineView) (txns : List Txn) (place : ℕ) → m.state ≡ state_at base txns place → m.steps ≡ place → m.failed ≡ false → m ≡ machine_at base txns place
same_machine base m txns place s n f i = record { state = s i; steps = n i; failed = f i }

module _ (base : State) (txns : List Txn) (place : ℕ) (m m' : MachineView) (steps steps' : List Applied) (txn : Txn) (to : IsWalkTo base txns place m steps) (below : place < length txns) (is : txn ≡ get_or txns place txn) (taken : TakesStep m txn m' steps steps') where
  before_step : m.state ≡ state_at base txns place
  before_step = ap (λ m. m.state) to.at_place

  after_step : m'.state ≡ state_at base txns (place + 1)
  after_step = ap (λ p. p.0) taken.stepped ∙ ap (λ s. (step s txn).0) before_step ∙ sym (state_at-next base txns place txn below is)

  one_more : m'.steps ≡ place + 1
  one_more = taken.counted ∙ ap (λ m. m.steps + 1) to.at_place

  new_step : IsStepFrom base txns place taken.applied
  new_step = record {
    txn = txn;
    found = slice_get-get_or txns place txn below ∙ ap Some (sym is);
    result = ap (λ p. p.1) taken.stepped ∙ ap (λ s. (step s txn).1) before_step;
    changes = taken.changes ∙ ap (λ s. changes_of s txn) before_step;
    last_step = taken.last_step ∙ one_more;
    undone = ap (restored taken.applied.undo) (sym after_step) ∙ taken.undone ∙ before_step;
    stands = subst (λ (s : State). IsState s.nodes) before_step taken.stands;
  }

  all_kept : (at : ℕ) (applied : Applied) → slice_get (steps ++ taken.applied ∷ []) at ≡ Some applied → IsStepFrom base txns at applied
  all_kept at applied found =
      elim (last_or_before steps taken.applied at applied found) as (λ _. IsStepFrom base txns at applied) [
        | inl e ↦ to.kept at applied e
        | inr e ↦ subst (λ n. IsStepFrom base txns n applied) (sym to.counted ∙ e.0) (subst (IsStepFrom base txns place) e.1 new_step)
      ]

  pub walked_on : IsWalkTo base txns (place + 1) m' steps'
  walked_on = subst (IsWalkTo base txns (place + 1) m') (sym taken.kept) (record {
    at_place = same_machine base m' txns (place + 1) after_step one_more taken.ran;
    counted = length-append steps (taken.applied ∷ []) ∙ ap (λ n. n + 1) to.counted;
    kept = all_kept;
  })

module _ (base : State) (txns : List Txn) (place : ℕ) (m : MachineView) (steps rest : List Applied) (applied : Applied) (to : IsWalkTo base txns place m steps) (popped : steps ≡ rest ++ applied ∷ []) where
  one_less : place ≡ length rest + 1
  one_less = sym to.counted ∙ ap length popped ∙ length-append rest (applied ∷ [])

  pub taken : IsStepFrom base txns (length rest) applied
  taken = to.kept (length rest) applied (ap (λ l. slice_get l (length rest)) popped ∙ slice_get-last rest applied)

  pub restored_before : restored applied.undo m.state ≡ state_at base txns (length rest)
  restored_before = ap (restored applied.undo) (ap (λ m. m.state) to.at_place ∙ ap (state_at base txns) one_less) ∙ taken.undone

  pub restores_state : IsState (restored applied.undo m.state).nodes
  restores_state = subst (λ (s : State). IsState s.nodes) (sym restored_before) taken.stands

  walked_to : (m' : MachineView) → m'.state ≡ restored applied.undo m.state → m'.steps + 1 ≡ m.steps → m'.failed ≡ false → IsWalkTo base txns (length rest) m' rest
  walked_to m' back counted ran =
      let many : m.steps ≡ length rest + 1 = ap (λ m. m.steps) to.at_place ∙ one_less in
      record {
        at_place = same_machine base m' txns (length rest) (back ∙ restored_before) (omega arith) ran;
        counted = refl;
        kept = λ at kept found. to.kept at kept (ap (λ l. slice_get l at) popped ∙ slice_get-before rest applied at kept found);
      }

  pub walked_back : (m' : MachineView) → m'.state ≡ restored applied.undo m.state → m'.steps + 1 ≡ m.steps → m'.failed ≡ false → IsWalkTo base txns (place - 1) m' rest
  walked_back m' back counted ran =
      let less : length rest ≡ place - 1 = omega (arith, one_less) in
      subst (λ n. IsWalkTo base txns n m' rest) less (walked_to m' back counted ran)

-- ---- the last step

module _ (base : State) (txns : List Txn) (place n : ℕ) (applied : Applied) (from : IsStepFrom base txns n applied) (is : place ≡ suc n) where
  before : n ≡ place - 1
  before = omega arith

  pub last_result : Some applied.result ≡ result_at base txns place
  last_result =
      ap Some from.result
      ∙ ap (option_map (λ txn. (step (state_at base txns n) txn).1)) (sym from.found)
      ∙ ap (λ m. option_map (λ txn. (step (state_at base txns m) txn).1) (slice_get txns n)) before
      ∙ ap (λ p. option_map (λ txn. (step (state_at base txns (place - 1)) txn).1) (txn_at txns p)) (sym is)

  pub last_changes : Some applied.changes.items ≡ changes_at base txns place
  last_changes =
      ap Some from.changes
      ∙ ap (option_map (changes_of (state_at base txns n))) (sym from.found)
      ∙ ap (λ m. option_map (changes_of (state_at base txns m)) (slice_get txns n)) before
      ∙ ap (λ p. option_map (changes_of (state_at base txns (place - 1))) (txn_at txns p)) (sym is)
