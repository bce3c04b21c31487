-- Parents, and nodes without children.
use Rattle.std.proofs.Common.{◌≡◌, ℕ, Bool, true, false, cond, ◌||◌, List, [], ◌∷◌, filter, length, Option, Some, None, is_some, IsSome, ◌==◌, refl, sym, ap, ◌∙◌, codes}
use Rattle.std.proofs.lemmas.Bool.{false≢true}
use Rattle.std.proofs.lemmas.Cmp.{nat_list_cmp_total, eq_by_cmp_equiv}
use Rattle.std.proofs.lemmas.Map.Text.{is_eq-slice_cmp}
use Rattle.std.specs.FinMap as finite
use Rattle.std.specs.List.{list_any}
use Rattle.std.specs.Ordering.{eq_by_cmp}
use Rattle.std.specs.Str.{bytes_eq}
use Rattle.zk_path.specs.Paths.{parent_of, is_root, before_last_slash}
use Rattle.zk_table.specs.States.{NodeMap, path_cmp, is_parent, is_child_of, children_of}
use Rattle.zk_machine.proofs.Texts.{same_is}

-- a look-up's test, as maps of values write it
tests_alike : (k q : List ℕ) → bytes_eq k q ≡ eq_by_cmp path_cmp q k
tests_alike k q = sym (is_eq-slice_cmp k q) ∙ (eq_by_cmp_equiv nat_list_cmp_total).symm k q

pub same_itself : (q : List ℕ) → eq_by_cmp path_cmp q q ≡ true
same_itself q = (eq_by_cmp_equiv nat_list_cmp_total).refl q

child_is : (path child : List ℕ) → is_child_of path child ≡ true → parent_of child ≡ Some path
child_is path child e = of_parent (parent_of child) e
  where
    of_parent : (p : Option (List ℕ)) → is_parent p path ≡ true → p ≡ Some path
    of_parent None e = absurd (false≢true e)
    of_parent (Some above) e = ap Some (sym (same_is path above (sym (tests_alike above path) ∙ e)))

none_left : (f : List ℕ → Bool) (ks : List (List ℕ)) → ((k : List ℕ) → list_any (eq_by_cmp path_cmp k) ks ≡ true → f k ≡ true → ⊥) → filter f ks ≡ []
none_left f [] none = refl
none_left f (k ∷ ks) none =
    elim (f k) as (λ b. f k ≡ b → cond b (k ∷ filter f ks) (filter f ks) ≡ []) [
      | true ↦ λ e. absurd (none k (ap (λ b. b || list_any (eq_by_cmp path_cmp k) ks) (same_itself k)) e)
      | false ↦ λ e. none_left f ks (λ q h. none q (or_true (eq_by_cmp path_cmp q k) h))
    ] refl
  where
    or_true : (a : Bool) {b : Bool} → b ≡ true → (a || b) ≡ true
    or_true true e = refl
    or_true false e = e

-- a node is childless if it is no node's parent
pub childless : (nodes : NodeMap) (path : List ℕ) → ((child : List ℕ) → finite.contains_key nodes child ≡ true → parent_of child ≡ Some path → ⊥) → length (children_of nodes path) ≡ 0
childless nodes path none = ap length (none_left (is_child_of path) (finite.keys nodes) (λ k has is. none k (finite.contains_key-keys nodes k ∙ has) (child_is path k is)))

-- a path without parent is the root
pub root_is : (path : List ℕ) → parent_of path ≡ None → path ≡ codes "/"
root_is path e =
    elim (is_root path) as (λ b. is_root path ≡ b → cond b None (Some (cond (length (before_last_slash path) == 0) (47 ∷ []) (before_last_slash path))) ≡ None → path ≡ codes "/") [
      | true ↦ λ r _. sym (same_is (codes "/") path (sym (tests_alike path (codes "/")) ∙ r))
      | false ↦ λ r none. absurd (false≢true (sym (ap is_some none)))
    ] refl e

-- a path that isn't the root has a parent
pub has_parent : (path : List ℕ) → (path ≡ codes "/" → ⊥) → IsSome (parent_of path)
has_parent path not_root = elim (parent_of path) as (λ p. parent_of path ≡ p → IsSome p) [
  | None ↦ λ e. absurd (not_root (root_is path e))
  | (Some above) ↦ λ e. refl
] refl
