-- The sum over the nodes of a tree: those at some paths, and all others.
use Rattle.std.proofs.Common.{◌≡◌, ℕ, ◌+◌, Bool, true, false, cond, not, ◌&&◌, ◌||◌, T, List, [], ◌∷◌, map, Option, None, refl, sym, ap, ◌∙◌, arith, is_lt}
use Rattle.std.proofs.lemmas.Bool.{and_parts}
use Rattle.std.proofs.lemmas.Cmp.{nat_list_cmp_total, eq_by_cmp_equiv}
use Rattle.std.specs.FinMap as finite
use Rattle.std.specs.FinMap.{find, is_sorted}
use Rattle.std.specs.FinMap.Entries.{where_key, is_sorted-where_key, find-where_key, same_entries}
use Rattle.std.specs.List.{list_any}
use Rattle.std.specs.Ordering.{eq_by_cmp}
use Rattle.zk_table.proofs.Sorted.{from_true, to_true}
use Rattle.zk_table.specs.States.{path_cmp}
use Rattle.zk_machine.proofs.Texts.{path_cmp-IsAntisymmetric}
use Rattle.zk_mend.proofs.Totals.{less, part, total_split, without}
use Rattle.zk_mend.specs.Digests.{total}

turned : (q p : List ℕ) → eq_by_cmp path_cmp q p ≡ eq_by_cmp path_cmp p q
turned q p = (eq_by_cmp_equiv nat_list_cmp_total).symm q p

-- ---- paths that rise

abbrev pub below_each : List ℕ → List (List ℕ) → Bool
below_each x [] = true
below_each x (k ∷ ks) = is_lt (path_cmp x k) && below_each x ks

abbrev pub rises : List (List ℕ) → Bool
rises [] = true
rises (k ∷ ks) = below_each k ks && rises ks

abbrev below_all : {X : Type 0} → List ℕ → List (List ℕ × X) → Bool
below_all x [] = true
below_all x (e ∷ es) = is_lt (path_cmp x e.0) && below_all x es

below_keys : {X : Type 0} (x : List ℕ) (es : List (List ℕ × X)) → below_each x (map (λ e. e.0) es) ≡ below_all x es
below_keys x [] = refl
below_keys x (e ∷ es) = ap (λ b. is_lt (path_cmp x e.0) && b) (below_keys x es)

rising_entries : {X : Type 0} (es : List (List ℕ × X)) → rises (map (λ e. e.0) es) ≡ is_sorted path_cmp es
rising_entries [] = refl
rising_entries (e ∷ es) = λ i. below_keys e.0 es i && rising_entries es i

pub rising_keys : {X : Type 0} (m : finite.FinMap path_cmp X) → rises (finite.keys m) ≡ true
rising_keys m = rising_entries (finite.entries m) ∙ to_true _ (finite.entries_sorted m)

-- ---- the nodes at other paths

module _ {X : Type 0} where
  abbrev pub others : List (List ℕ) → List (List ℕ × X) → List (List ℕ × X)
  others ks es = where_key path_cmp (λ x. not (list_any (eq_by_cmp path_cmp x) ks)) es

  none_left : (b : Bool) (x : Option X) → cond (not b) x None ≡ cond b None x
  none_left true x = refl
  none_left false x = refl

  find-others : (ks : List (List ℕ)) (q : List ℕ) (es : List (List ℕ × X)) → find path_cmp q (others ks es) ≡ cond (list_any (eq_by_cmp path_cmp q) ks) None (find path_cmp q es)
  find-others ks q es =
      find-where_key path_cmp (λ x. not (list_any (eq_by_cmp path_cmp x) ks)) q (λ x tied. ap (λ k. not (list_any (eq_by_cmp path_cmp k) ks)) (sym (path_cmp-IsAntisymmetric q x tied))) es
      ∙ none_left (list_any (eq_by_cmp path_cmp q) ks) (find path_cmp q es)

  -- sorted lists that agree at all other paths
  pub same_others : (ks : List (List ℕ)) (es fs : List (List ℕ × X)) → T (is_sorted path_cmp es) → T (is_sorted path_cmp fs) → ((q : List ℕ) → list_any (eq_by_cmp path_cmp q) ks ≡ false → find path_cmp q es ≡ find path_cmp q fs) → others ks es ≡ others ks fs
  same_others ks es fs first second alike =
      same_entries path_cmp nat_list_cmp_total path_cmp-IsAntisymmetric (others ks es) (others ks fs) (is_sorted-where_key path_cmp _ es first) (is_sorted-where_key path_cmp _ fs second)
      (λ q. find-others ks q es
      ∙ elim (list_any (eq_by_cmp path_cmp q) ks) as (λ b. list_any (eq_by_cmp path_cmp q) ks ≡ b → cond b None (find path_cmp q es) ≡ cond b None (find path_cmp q fs)) [
        | true ↦ λ _. refl
        | false ↦ λ other. alike q other
      ] refl
      ∙ sym (find-others ks q fs))

  -- one path more is left out
  one_less : (k : List ℕ) (ks : List (List ℕ)) (es : List (List ℕ × X)) → others (k ∷ ks) es ≡ others ks (without k es)
  one_less k ks [] = refl
  one_less k ks (e ∷ es) =
      ap (λ b. cond (not (b || list_any (eq_by_cmp path_cmp e.0) ks)) (e ∷ others (k ∷ ks) es) (others (k ∷ ks) es)) (turned e.0 k)
      ∙ elim (eq_by_cmp path_cmp k e.0) as (λ b. cond (not (b || list_any (eq_by_cmp path_cmp e.0) ks)) (e ∷ others (k ∷ ks) es) (others (k ∷ ks) es) ≡ others ks (cond (not b) (e ∷ without k es) (without k es))) [
        | true ↦ one_less k ks es
        | false ↦ λ i. cond (not (list_any (eq_by_cmp path_cmp e.0) ks)) (e ∷ one_less k ks es i) (one_less k ks es i)
      ]

  none_less : (es : List (List ℕ × X)) → others [] es ≡ es
  none_less [] = refl
  none_less (e ∷ es) = ap (λ l. e ∷ l) (none_less es)

  -- ---- sums

  abbrev pub parts : (List ℕ → X → ℕ) → List (List ℕ × X) → List (List ℕ) → ℕ
  parts count es [] = 0
  parts count es (k ∷ ks) = part count k (find path_cmp k es) + parts count es ks

  -- a path below others is not one of them
  parts_without : (count : List ℕ → X → ℕ) (k : List ℕ) (es : List (List ℕ × X)) (ks : List (List ℕ)) → below_each k ks ≡ true → parts count (without k es) ks ≡ parts count es ks
  parts_without count k es [] h = refl
  parts_without count k es (p ∷ ks) h =
      let first : find path_cmp p (without k es) ≡ find path_cmp p es =
      find-where_key path_cmp (λ x. not (eq_by_cmp path_cmp k x)) p (λ x tied. ap (λ y. not (eq_by_cmp path_cmp k y)) (sym (path_cmp-IsAntisymmetric p x tied))) es
      ∙ ap (λ b. cond (not b) (find path_cmp p es) None) (less (path_cmp k p) (and_parts _ _ h).0) in
      λ i. part count p (first i) + parts_without count k es ks (and_parts _ _ h).1 i

  sorted_without : (k : List ℕ) (es : List (List ℕ × X)) → is_sorted path_cmp es ≡ true → is_sorted path_cmp (without k es) ≡ true
  sorted_without k es h = to_true _ (is_sorted-where_key path_cmp _ es (from_true _ h))

  pub total_parts : (count : List ℕ → X → ℕ) (ks : List (List ℕ)) (es : List (List ℕ × X)) → rises ks ≡ true → is_sorted path_cmp es ≡ true → total count es ≡ total count (others ks es) + parts count es ks
  total_parts count [] es r h = let same : total count (others [] es) ≡ total count es = ap (total count) (none_less es) in omega (arith, same)
  total_parts count (k ∷ ks) es r h =
      let split : total count es ≡ total count (without k es) + part count k (find path_cmp k es) = total_split count k es h in
      let rest : total count (without k es) ≡ total count (others ks (without k es)) + parts count (without k es) ks = total_parts count ks (without k es) (and_parts _ _ r).1 (sorted_without k es h) in
      let same : parts count (without k es) ks ≡ parts count es ks = parts_without count k es ks (and_parts _ _ r).0 in
      let left : total count (others (k ∷ ks) es) ≡ total count (others ks (without k es)) = ap (total count) (one_less k ks es) in
      omega (arith, split, rest, same, left)

  -- summands that agree at all other paths
  pub total_alike : (count other : List ℕ → X → ℕ) (ks : List (List ℕ)) → ((q : List ℕ) (x : X) → list_any (eq_by_cmp path_cmp q) ks ≡ false → count q x ≡ other q x) → (es : List (List ℕ × X)) → total count (others ks es) ≡ total other (others ks es)
  total_alike count other ks alike [] = refl
  total_alike count other ks alike (e ∷ es) =
      let rest = total_alike count other ks alike es in
      elim (list_any (eq_by_cmp path_cmp e.0) ks) as (λ b. list_any (eq_by_cmp path_cmp e.0) ks ≡ b → total count (cond (not b) (e ∷ others ks es) (others ks es)) ≡ total other (cond (not b) (e ∷ others ks es) (others ks es))) [
        | true ↦ λ _. rest
        | false ↦ λ is. λ i. alike e.0 e.1 is i + rest i
      ] refl
