-- The first fault of names, from the left.
use Rattle.std.proofs.Common.{◌≡◌, ℕ, ◌+◌, ◌<◌, List, length, get_or, drop, Some, None, sym, ap, ◌∙◌}
use Rattle.std.proofs.lemmas.List.{at_drop_more}
use Rattle.zk_path.specs.declared.fault.PathFault.{PathFault}
use Rattle.zk_path.specs.Paths.{earlier, name_fault, first_fault}

-- the name at n, and those after it
pub first_fault_more : (names : List (List ℕ)) (n : ℕ) (name : List ℕ) → (n < length names) × (name ≡ get_or names n name) → first_fault (drop n names) ≡ earlier (name_fault name) (first_fault (drop (n + 1) names))
first_fault_more names n name here =
    at_drop_more first_fault names n name here.0 ∙ ap (λ x. earlier (name_fault x) (first_fault (drop (n + 1) names))) (sym here.1)

pub first_fault_found : (names : List (List ℕ)) (n : ℕ) (name : List ℕ) (fault : PathFault) → (n < length names) × (name ≡ get_or names n name) → first_fault (drop n names) ≡ first_fault names → Some fault ≡ name_fault name → Some fault ≡ first_fault names
first_fault_found names n name fault here rest said =
    ap (λ o. earlier o (first_fault (drop (n + 1) names))) said ∙ (sym (first_fault_more names n name here) ∙ rest)

pub first_fault_passed : (names : List (List ℕ)) (n : ℕ) (name : List ℕ) → (n < length names) × (name ≡ get_or names n name) → first_fault (drop n names) ≡ first_fault names → None ≡ name_fault name → first_fault (drop (n + 1) names) ≡ first_fault names
first_fault_passed names n name here rest said =
    ap (λ o. earlier o (first_fault (drop (n + 1) names))) said ∙ (sym (first_fault_more names n name here) ∙ rest)
