-- Parents precede their children; and the order in which a state can be restored.
use Rattle.std.proofs.Common.{◌≡◌, ℕ, pos, true, false, cond, List, [], ◌∷◌, length, ◌==◌, arith, Some, is_some, unwrap_or, refl, sym, ap, ◌∙◌, Less}
use Rattle.std.proofs.lemmas.Bool.{false≢true, ne_eqb}
use Rattle.std.proofs.lemmas.Cmp.{nat_cmp_total, tied_itself}
use Rattle.std.specs.FinMap as finite
use Rattle.std.specs.Ordering.{ordering_then}
use Rattle.zk_path.specs.Paths.{parent_of, before_last_slash, has_slash}
use Rattle.zk_table.specs.States.{NodeMap, path_cmp}
use Rattle.zk_tree.specs.Trees.{owner_at}

stem_less : (bs : List ℕ) → has_slash bs ≡ true → path_cmp (before_last_slash bs) bs ≡ Less
stem_less [] h = absurd (false≢true h)
stem_less (b ∷ bs) h =
    elim (has_slash bs) as (λ s. has_slash bs ≡ s → path_cmp (cond s (b ∷ before_last_slash bs) []) (b ∷ bs) ≡ Less) [
      | true ↦ λ s. ap (λ r. ordering_then r (path_cmp (before_last_slash bs) bs)) (tied_itself nat_cmp_total b) ∙ stem_less bs s
      | false ↦ λ s. refl
    ] refl

from_some : (a b : List ℕ) → Some a ≡ Some b → a ≡ b
from_some a b e = ap (λ x. unwrap_or x a) e

filled : (xs : List ℕ) → (length (47 ∷ xs) == 0) ≡ false
filled xs = ne_eqb (length (47 ∷ xs)) 0 (λ e. absurd (omega arith))

-- each path starts with a slash
pub parent_less : (rest above : List ℕ) → parent_of (47 ∷ rest) ≡ Some above → path_cmp above (47 ∷ rest) ≡ Less
parent_less [] above e = absurd (false≢true (ap is_some e))
parent_less (b ∷ bs) above e =
    elim (has_slash (b ∷ bs)) as (λ s. has_slash (b ∷ bs) ≡ s → Some (cond (length (cond s (47 ∷ before_last_slash (b ∷ bs)) []) == 0) (47 ∷ []) (cond s (47 ∷ before_last_slash (b ∷ bs)) [])) ≡ Some above → path_cmp above (47 ∷ b ∷ bs) ≡ Less) [
      | true ↦ λ s is. ap (λ a. path_cmp a (47 ∷ b ∷ bs)) (sym (from_some _ _ is) ∙ ap (λ z. cond z (47 ∷ []) (47 ∷ before_last_slash (b ∷ bs))) (filled (before_last_slash (b ∷ bs)))) ∙ stem_less (b ∷ bs) s
      | false ↦ λ s is. ap (λ a. path_cmp a (47 ∷ b ∷ bs)) (sym (from_some _ _ is))
    ] refl e

-- ---- restoring a state

-- each node's parent exists and has no owner
abbrev pub HasParents : NodeMap → Type 0
HasParents nodes = (child above : List ℕ) → finite.contains_key nodes child ≡ true → parent_of child ≡ Some above → owner_at nodes above ≡ Some (pos 0)

-- if a node must be deleted, or get another owner, each of its children is deleted too
pub children_go : (now before : NodeMap) → HasParents now → HasParents before → (above child : List ℕ) → parent_of child ≡ Some above → finite.contains_key now child ≡ true → (owner_at now above ≡ owner_at before above → ⊥) → finite.contains_key before child ≡ false
children_go now before good was above child below there differ =
    elim (finite.contains_key before child) as (λ b. finite.contains_key before child ≡ b → b ≡ false) [
      | true ↦ λ e. absurd (differ (good child above there below ∙ sym (was child above e below)))
      | false ↦ λ e. refl
    ] refl
