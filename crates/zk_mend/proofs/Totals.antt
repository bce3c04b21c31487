-- The sum over the nodes of a tree, if one path changes.
use Rattle.std.proofs.Common.{◌≡◌, ℕ, ◌+◌, Bool, true, false, cond, not, ◌&&◌, T, List, [], ◌∷◌, Option, Some, None, refl, sym, ap, ◌∙◌, arith, is_lt, is_eq, Less, Equal, Greater}
use Rattle.std.proofs.lemmas.Bool.{and_parts}
use Rattle.std.proofs.lemmas.Cmp.{nat_list_cmp_total, eq_by_cmp_equiv}
use Rattle.std.specs.declared.cmp.Ordering.{Ordering}
use Rattle.std.specs.FinMap.{find, is_sorted}
use Rattle.std.specs.FinMap.Entries.{where_key, is_sorted-where_key, find-where_key, same_entries}
use Rattle.std.specs.Ordering.{eq_by_cmp}
use Rattle.zk_table.proofs.Sorted.{from_true}
use Rattle.zk_table.specs.States.{path_cmp}
use Rattle.zk_mend.specs.Digests.{total}
use Rattle.zk_machine.proofs.Texts.{path_cmp-IsAntisymmetric, same_is}

is_at : List ℕ → List ℕ → Bool
is_at q p = eq_by_cmp path_cmp q p

turned : (q p : List ℕ) → eq_by_cmp path_cmp q p ≡ eq_by_cmp path_cmp p q
turned q p = (eq_by_cmp_equiv nat_list_cmp_total).symm q p

pub less : (r : Ordering) → is_lt r ≡ true → is_eq r ≡ false
less Less e = refl
less Equal e = sym e
less Greater e = refl

module _ {X : Type 0} where
  -- ---- one path left out

  abbrev pub without : List ℕ → List (List ℕ × X) → List (List ℕ × X)
  without p es = where_key path_cmp (λ x. not (eq_by_cmp path_cmp p x)) es

  found_without : (b : Bool) (x : Option X) → cond (not b) x None ≡ cond b None x
  found_without true x = refl
  found_without false x = refl

  find-without : (p q : List ℕ) (es : List (List ℕ × X)) → find path_cmp q (without p es) ≡ cond (eq_by_cmp path_cmp q p) None (find path_cmp q es)
  find-without p q es =
      find-where_key path_cmp (λ x. not (eq_by_cmp path_cmp p x)) q (λ x tied. ap (λ k. not (eq_by_cmp path_cmp p k)) (sym (path_cmp-IsAntisymmetric q x tied))) es
      ∙ found_without (eq_by_cmp path_cmp p q) (find path_cmp q es)
      ∙ ap (λ b. cond b None (find path_cmp q es)) (turned p q)

  -- sorted lists that agree at all but one path are the same list without it
  pub same_without : (p : List ℕ) (es fs : List (List ℕ × X)) → T (is_sorted path_cmp es) → T (is_sorted path_cmp fs) → ((q : List ℕ) → eq_by_cmp path_cmp q p ≡ false → find path_cmp q es ≡ find path_cmp q fs) → without p es ≡ without p fs
  same_without p es fs first second alike =
      same_entries path_cmp nat_list_cmp_total path_cmp-IsAntisymmetric (without p es) (without p fs) (is_sorted-where_key path_cmp _ es first) (is_sorted-where_key path_cmp _ fs second)
      (λ q. find-without p q es
      ∙ elim (eq_by_cmp path_cmp q p) as (λ b. eq_by_cmp path_cmp q p ≡ b → cond b None (find path_cmp q es) ≡ cond b None (find path_cmp q fs)) [
        | true ↦ λ _. refl
        | false ↦ λ other. alike q other
      ] refl
      ∙ sym (find-without p q fs))

  -- ---- totals

  abbrev pub part : (List ℕ → X → ℕ) → List ℕ → Option X → ℕ
  part count p None = 0
  part count p (Some x) = count p x

  abbrev pub below_all : List ℕ → List (List ℕ × X) → Bool
  below_all x [] = true
  below_all x (e ∷ es) = is_lt (path_cmp x e.0) && below_all x es

  pub find_least : (x : List ℕ) (es : List (List ℕ × X)) → below_all x es ≡ true → find path_cmp x es ≡ None
  find_least x [] h = refl
  find_least x (e ∷ es) h = ap (λ b. cond b (Some e.1) (find path_cmp x es)) (less (path_cmp x e.0) (and_parts _ _ h).0) ∙ find_least x es (and_parts _ _ h).1

  -- one path, and all others
  pub total_split : (count : List ℕ → X → ℕ) (p : List ℕ) (es : List (List ℕ × X)) → is_sorted path_cmp es ≡ true → total count es ≡ total count (without p es) + part count p (find path_cmp p es)
  total_split count p [] h = refl
  total_split count p (e ∷ es) h =
      let rest = total_split count p es (and_parts _ _ h).1 in
      elim (eq_by_cmp path_cmp p e.0) as (λ b. eq_by_cmp path_cmp p e.0 ≡ b → count e.0 e.1 + total count es ≡ total count (cond (not b) (e ∷ without p es) (without p es)) + part count p (cond b (Some e.1) (find path_cmp p es))) [
        | true ↦ λ is.
            let same = same_is p e.0 is in
            let none : part count p (find path_cmp p es) ≡ 0 = ap (part count p) (ap (λ k. find path_cmp k es) same ∙ find_least e.0 es (and_parts _ _ h).0) in
            let its : count e.0 e.1 ≡ count p e.1 = ap (λ k. count k e.1) (sym same) in
            omega (arith, rest, none, its)
        | false ↦ λ _. let kept : count e.0 e.1 + total count es ≡ count e.0 e.1 + total count (without p es) + part count p (find path_cmp p es) = omega (arith, rest) in kept
      ] refl

  -- two summands that agree at all but one path
  pub total_without : (count other : List ℕ → X → ℕ) (p : List ℕ) → ((q : List ℕ) (x : X) → eq_by_cmp path_cmp q p ≡ false → count q x ≡ other q x) → (es : List (List ℕ × X)) → total count (without p es) ≡ total other (without p es)
  total_without count other p alike [] = refl
  total_without count other p alike (e ∷ es) =
      let rest = total_without count other p alike es in
      elim (eq_by_cmp path_cmp p e.0) as (λ b. eq_by_cmp path_cmp p e.0 ≡ b → total count (cond (not b) (e ∷ without p es) (without p es)) ≡ total other (cond (not b) (e ∷ without p es) (without p es))) [
        | true ↦ λ _. rest
        | false ↦ λ is.
            let at : count e.0 e.1 ≡ other e.0 e.1 = alike e.0 e.1 (turned e.0 p ∙ is) in
            let kept : count e.0 e.1 + total count (without p es) ≡ other e.0 e.1 + total other (without p es) = omega (arith, rest, at) in
            kept
      ] refl

  -- the sum over a list that changed at one path: the rest is unchanged
  pub total_changed : (count other : List ℕ → X → ℕ) (p : List ℕ) (es fs : List (List ℕ × X)) → is_sorted path_cmp es ≡ true → is_sorted path_cmp fs ≡ true → ((q : List ℕ) → eq_by_cmp path_cmp q p ≡ false → find path_cmp q es ≡ find path_cmp q fs) → ((q : List ℕ) (x : X) → eq_by_cmp path_cmp q p ≡ false → count q x ≡ other q x) → (rest : ℕ) × (total count es ≡ rest + part count p (find path_cmp p es)) × (total other fs ≡ rest + part other p (find path_cmp p fs))
  total_changed count other p es fs first second alike counts =
      let same : total other (without p fs) ≡ total count (without p es) = ap (total other) (sym (same_without p es fs (from_true _ first) (from_true _ second) alike)) ∙ sym (total_without count other p counts es) in
      (total count (without p es), total_split count p es first, total_split other p fs second ∙ ap (λ n. n + part other p (find path_cmp p fs)) same)
