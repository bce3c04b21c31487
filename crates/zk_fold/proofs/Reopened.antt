-- A map that is built again from its entries.
use Rattle.std.proofs.Common.{◌≡◌, Bool, true, false, cond, ◌&&◌, List, [], ◌∷◌, Option, Some, None, refl, sym, ap, ◌∙◌, is_lt, is_eq, Less, Equal, Greater}
use Rattle.std.proofs.lemmas.Bool.{false≢true, and_parts}
use Rattle.std.specs.declared.cmp.Ordering.{Ordering}
use Rattle.std.specs.Cmp.{IsTotalOrder}
use Rattle.std.specs.FinMap as finite
use Rattle.std.specs.FinMap.{FinMap, IsAntisymmetric, find, is_sorted}
use Rattle.std.specs.Option.{option_or}
use Rattle.std.specs.Ordering.{eq_by_cmp}
use Rattle.zk_table.proofs.Sorted.{to_true}

less : (r : Ordering) → is_lt r ≡ true → is_eq r ≡ false
less Less e = refl
less Equal e = absurd (false≢true e)
less Greater e = refl

tied : (r : Ordering) → is_eq r ≡ true → r ≡ Equal
tied Less e = absurd (false≢true e)
tied Equal e = refl
tied Greater e = absurd (false≢true e)

or_none : {X : Type 0} (x : Option X) → option_or x None ≡ x
or_none None = refl
or_none (Some x) = refl

-- entries that are put into a map in order
abbrev pub all_put : {K X : Type 0} {R : K → K → Ordering} → FinMap R X → List (K × X) → FinMap R X
all_put m [] = m
all_put m (e ∷ es) = all_put (finite.insert m e.0 e.1) es

module _ {K X : Type 0} {R : K → K → Ordering} (o : IsTotalOrder R) (same : IsAntisymmetric R) where
  abbrev below_all : K → List (K × X) → Bool
  below_all x [] = true
  below_all x (e ∷ es) = is_lt (R x e.0) && below_all x es

  find_least : (x : K) (es : List (K × X)) → below_all x es ≡ true → find R x es ≡ None
  find_least x [] h = refl
  find_least x (e ∷ es) h = ap (λ b. cond b (Some e.1) (find R x es)) (less (R x e.0) (and_parts _ _ h).0) ∙ find_least x es (and_parts _ _ h).1

  get-all_put : (es : List (K × X)) (m : FinMap R X) → is_sorted R es ≡ true → (q : K) → finite.get (all_put m es) q ≡ option_or (find R q es) (finite.get m q)
  get-all_put [] m h q = refl
  get-all_put (e ∷ es) m h q =
      get-all_put es (finite.insert m e.0 e.1) (and_parts _ _ h).1 q
      ∙ ap (option_or (find R q es)) (finite.get-insert o m e.0 e.1 q)
      ∙ elim (eq_by_cmp R q e.0) as (λ b. eq_by_cmp R q e.0 ≡ b → option_or (find R q es) (cond b (Some e.1) (finite.get m q)) ≡ option_or (cond b (Some e.1) (find R q es)) (finite.get m q)) [
        | true ↦ λ at. ap (λ f. option_or f (Some e.1)) (ap (λ k. find R k es) (same q e.0 (tied _ at)) ∙ find_least e.0 es (and_parts _ _ h).0)
        | false ↦ λ _. refl
      ] refl

  pub all_put_again : (m : FinMap R X) → all_put finite.empty (finite.entries m) ≡ m
  all_put_again m = finite.same_map o same _ m (λ q. get-all_put (finite.entries m) finite.empty (to_true _ (finite.entries_sorted m)) q ∙ ap (option_or (find R q (finite.entries m))) (finite.get-empty R q) ∙ or_none _ ∙ sym (finite.get-entries m q))
