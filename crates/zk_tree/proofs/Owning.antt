-- The paths that sessions own, after one was added or removed.
use Rattle.std.proofs.Common.{◌≡◌, ◌≢◌, ℕ, ℤ, pos, Bool, true, false, cond, not, w64, of_z, ◌&&◌, ◌==◌, List, is_some, Option, Some, None, refl, sym, ap, ◌∙◌}
use Rattle.std.proofs.lemmas.Bool.{cond-false, ne_eqb}
use Rattle.std.proofs.lemmas.Cmp.{nat_list_cmp_total, int_cmp_total, eq_by_cmp_equiv}
use Rattle.std.specs.Cmp.{IsTotalOrder}
use Rattle.std.specs.FinMap as finite
use Rattle.std.specs.FinMap.{FinMap, IsAntisymmetric, int_cmp-IsAntisymmetric}
use Rattle.std.specs.Ordering.{eq_by_cmp, int_eq}
use Rattle.std.specs.declared.cmp.Ordering.{Ordering}
use Rattle.zk_table.specs.States.{path_cmp}
use Rattle.zk_tree.specs.Owners.{set_at, set_found, with_owned, with_set, without_owned}
use Rattle.zk_tree.specs.Views.{PathKeys, OwnerMap}
use Rattle.zk_tree.proofs.Kept.{same_members, contains_key-remove, tied}

-- ---- removals that change nothing, and those of the last insertion

module _ {K X : Type 0} {R : K → K → Ordering} (o : IsTotalOrder R) (same : IsAntisymmetric R) (m : FinMap R X) (k : K) where
  gone_twice : (v : X) (q : K) (b : Bool) → cond b None (cond b (Some v) (finite.get m q)) ≡ cond b None (finite.get m q)
  gone_twice v q true = refl
  gone_twice v q false = refl

  pub remove-insert : (v : X) → finite.remove (finite.insert m k v) k ≡ finite.remove m k
  remove-insert v =
      finite.same_map o same _ _ (λ q. finite.get-remove o (finite.insert m k v) k q
      ∙ ap (cond (eq_by_cmp R q k) None) (finite.get-insert o m k v q)
      ∙ gone_twice v q (eq_by_cmp R q k)
      ∙ sym (finite.get-remove o m k q))

  never_there : finite.get m k ≡ None → (q : K) → cond (eq_by_cmp R q k) None (finite.get m q) ≡ finite.get m q
  never_there none q =
      elim (eq_by_cmp R q k) as (λ b. eq_by_cmp R q k ≡ b → cond b None (finite.get m q) ≡ finite.get m q) [
        | true ↦ λ s. sym none ∙ ap (finite.get m) (same k q (tied _ ((eq_by_cmp_equiv o).symm k q ∙ s)))
        | false ↦ λ s. refl
      ] refl

  pub remove-missing : finite.get m k ≡ None → finite.remove m k ≡ m
  remove-missing none = finite.same_map o same _ _ (λ q. finite.get-remove o m k q ∙ never_there none q)

nothing_in_empty : (q path : List ℕ) → (not (eq_by_cmp path_cmp q path) && finite.contains_key (finite.empty {X = Unit {0}} {R = path_cmp}) q) ≡ finite.contains_key (finite.empty {X = Unit {0}} {R = path_cmp}) q
nothing_in_empty q path =
    ap (λ (o : Option (Unit {0})). not (eq_by_cmp path_cmp q path) && is_some o) (finite.get-empty path_cmp q)
    ∙ elim (not (eq_by_cmp path_cmp q path)) as (λ b. (b && false) ≡ false) [ true ↦ refl | false ↦ refl ]
    ∙ sym (ap is_some (finite.get-empty path_cmp q))

remove-empty : (path : List ℕ) → finite.remove (finite.empty {X = Unit {0}} {R = path_cmp}) path ≡ finite.empty
remove-empty path = same_members _ _ (λ q. contains_key-remove nat_list_cmp_total finite.empty path q ∙ nothing_in_empty q path)

-- ---- one path more, one path less

-- a session whose bits are not 0
pub owns_some : (session : ℤ) → (of_z w64 session ≡ 0 → ⊥) → int_eq session (pos 0) ≡ false
owns_some session apart =
    elim (int_eq session (pos 0)) as (λ b. int_eq session (pos 0) ≡ b → b ≡ false) [
      | true ↦ λ e. absurd (apart (ap (of_z w64) (int_cmp-IsAntisymmetric session (pos 0) (tied _ e))))
      | false ↦ λ e. refl
    ] refl

module _ (o : OwnerMap) (session : ℤ) (path : List ℕ) (owns : int_eq session (pos 0) ≡ false) where
  pub owned_added : (set new : PathKeys) → set_at o session ≡ set → new ≡ finite.insert set path tt → finite.insert o session new ≡ with_owned o session path
  owned_added set new was is = ap (finite.insert o session) (is ∙ ap (λ s. finite.insert s path tt) (sym was)) ∙ sym (cond-false (int_eq session (pos 0)) _ _ owns)

  lost : (rest : PathKeys) → rest ≡ finite.remove (set_at o session) path → with_set o session rest ≡ without_owned o session path
  lost rest is = ap (with_set o session) is ∙ sym (cond-false (int_eq session (pos 0)) _ _ owns)

  pub last_lost : (set rest : PathKeys) → set_at o session ≡ set → rest ≡ finite.remove set path → finite.len rest ≡ 0 → finite.remove (finite.insert o session rest) session ≡ without_owned o session path
  last_lost set rest was is none =
      remove-insert int_cmp_total int_cmp-IsAntisymmetric o session rest
      ∙ sym (ap (λ n. cond (n == 0) (finite.remove o session) (finite.insert o session rest)) none)
      ∙ lost rest (is ∙ ap (λ s. finite.remove s path) (sym was))

  pub one_lost : (set rest : PathKeys) → set_at o session ≡ set → rest ≡ finite.remove set path → finite.len rest ≢ 0 → finite.insert o session rest ≡ without_owned o session path
  one_lost set rest was is some =
      sym (cond-false (finite.len rest == 0) (finite.remove o session) (finite.insert o session rest) (ne_eqb (finite.len rest) 0 some))
      ∙ lost rest (is ∙ ap (λ s. finite.remove s path) (sym was))

  pub none_lost : finite.get o session ≡ None → o ≡ without_owned o session path
  none_lost none =
      sym (remove-missing int_cmp_total int_cmp-IsAntisymmetric o session none)
      ∙ sym (ap (λ n. cond (n == 0) (finite.remove o session) (finite.insert o session finite.empty)) (finite.len-empty path_cmp (Unit {0})))
      ∙ lost finite.empty (sym (ap (λ s. finite.remove (set_found s) path) none ∙ remove-empty path))
