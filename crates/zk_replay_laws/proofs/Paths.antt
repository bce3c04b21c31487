-- Paths below a path.
use Rattle.std.proofs.Common.{◌≡◌, ◌≢◌, ◌⊎◌, inl, inr, ℕ, zero, suc, ◌<◌, ◌≤◌, ◌==◌, List, [], ◌∷◌, ◌++◌, length, Bool, true, false, cond, Option, Some, None, refl, sym, ap, ◌∙◌, arith, ⊎_elim}
use Rattle.std.proofs.lemmas.Bool.{cond-true, cond-false, cases_Bool, eqb-true, or_cases, and_right, false_from_ne_true, true_from_ne_false, both_ways, ne_eqb, eq-eqb, or_parts}
use Rattle.zk_path.proofs.Slashes.{has_slash_at_seam, before_last_slash_at}
use Rattle.zk_path.specs.Paths.{before_last_slash, after_last_slash, has_slash, is_slash, parent_of, is_root}

value_or : {A : Type 0} → A → Option A → A
value_or d None = d
value_or d (Some x) = x

pub some_inj : {A : Type 0} {x y : A} → Some x ≡ Some y → x ≡ y
unfolding value_or
some_inj {x = x} e = ap (value_or x) e

pub none_some : {A : Type 0} {x : A} → None ≡ Some x → ⊥
none_some e = absurd (cc)

abbrev pub IsBelow : List ℕ → List ℕ → Type 0
IsBelow path other = (rest : List ℕ) × (other ≡ path ++ 47 ∷ rest)

not_root_with : (x : ℕ) (xs rest : List ℕ) → is_root (x ∷ (xs ++ 47 ∷ rest)) ≡ false
not_root_with x [] rest = and_right _ _ refl
not_root_with x (y ∷ ys) rest = and_right _ _ refl

pub filled_is_not_root : (path rest : List ℕ) → path ≢ [] → is_root (path ++ 47 ∷ rest) ≡ false
filled_is_not_root [] rest filled = absurd (filled refl)
filled_is_not_root (x ∷ xs) rest filled = not_root_with x xs rest

before_later : (path rest : List ℕ) → has_slash rest ≡ true → before_last_slash (path ++ 47 ∷ rest) ≡ path ++ 47 ∷ before_last_slash rest
before_later [] rest has = cond-true (has_slash rest) _ _ has
before_later (x ∷ xs) rest has = cond-true (has_slash (xs ++ 47 ∷ rest)) _ _ (has_slash_at_seam xs rest) ∙ ap (λ zs. x ∷ zs) (before_later xs rest has)

shorter_before : (rest : List ℕ) → has_slash rest ≡ true → length (before_last_slash rest) < length rest
shorter_before [] has = absurd (cc)
shorter_before (b ∷ bs) has =
    ⊎_elim
    (λ more. let is = ap length (cond-true (has_slash bs) (b ∷ before_last_slash bs) [] more) in let less = shorter_before bs more in omega (arith, is, less))
    (λ none. let is = ap length (cond-false (has_slash bs) (b ∷ before_last_slash bs) [] none) in omega (arith, is))
    (cases_Bool (has_slash bs))

filled_length : (path rest : List ℕ) → path ≢ [] → (length path == 0) ≡ false
filled_length [] rest filled = absurd (filled refl)
filled_length (x ∷ xs) rest filled = ne_eqb _ _ (λ e. omega arith)

longer_length : (path rest : List ℕ) → (length (path ++ 47 ∷ rest) == 0) ≡ false
longer_length [] rest = ne_eqb _ _ (λ e. omega arith)
longer_length (x ∷ xs) rest = ne_eqb _ _ (λ e. omega arith)

parent_with : (text stem : List ℕ) → is_root text ≡ false → before_last_slash text ≡ stem → (length stem == 0) ≡ false → parent_of text ≡ Some stem
parent_with text stem other is filled =
    cond-false (is_root text) _ _ other
    ∙ ap (λ s. Some (cond (length s == 0) (47 ∷ []) s)) is
    ∙ ap Some (cond-false (length stem == 0) _ _ filled)

pub record ParentBelow (path rest : List ℕ) : Type 0 where
  pub stem : List ℕ
  pub less : length stem < length rest
  pub is : parent_of (path ++ 47 ∷ rest) ≡ Some (path ++ 47 ∷ stem)

pub parent_below : (path rest : List ℕ) → path ≢ [] → (parent_of (path ++ 47 ∷ rest) ≡ Some path) ⊎ ParentBelow path rest
parent_below path rest filled =
    ⊎_elim
    (λ has. inr (record {
      stem = before_last_slash rest;
      less = shorter_before rest has;
      is = parent_with (path ++ 47 ∷ rest) (path ++ 47 ∷ before_last_slash rest) (filled_is_not_root path rest filled) (before_later path rest has) (longer_length path (before_last_slash rest));
    }))
    (λ none. inl (parent_with (path ++ 47 ∷ rest) path (filled_is_not_root path rest filled) (before_last_slash_at path rest none) (filled_length path rest filled)))
    (cases_Bool (has_slash rest))

abbrev pub IsClosed : (List ℕ → Bool) → Type 0
IsClosed has = (path above : List ℕ) → has path ≡ true → parent_of path ≡ Some above → has above ≡ true

absent_within : (has : List ℕ → Bool) → IsClosed has → (path : List ℕ) → path ≢ [] → has path ≡ false → (n : ℕ) (rest : List ℕ) → length rest ≤ n → has (path ++ 47 ∷ rest) ≡ false
absent_within has closed path filled absent zero rest le =
    false_from_ne_true _ (λ there. ⊎_elim (λ e. both_ways _ absent (closed _ _ there e)) (λ more. let less = more.less in omega (arith, less, le)) (parent_below path rest filled))
absent_within has closed path filled absent (suc n) rest le =
    false_from_ne_true _ (λ there. ⊎_elim (λ e. both_ways _ absent (closed _ _ there e)) (λ more. let less = more.less in both_ways _ (absent_within has closed path filled absent n more.stem (omega (arith, less, le))) (closed _ _ there more.is)) (parent_below path rest filled))

-- what is below an absent path is absent
pub absent_below : (has : List ℕ → Bool) → IsClosed has → (path other : List ℕ) → path ≢ [] → has path ≡ false → IsBelow path other → has other ≡ false
absent_below has closed path other filled absent below = ap has below.1 ∙ absent_within has closed path filled absent (length below.0) below.0 (omega arith)

parts_of : (text : List ℕ) → has_slash text ≡ true → text ≡ before_last_slash text ++ 47 ∷ after_last_slash text
parts_of [] has = absurd (cc)
parts_of (b ∷ bs) has =
    ⊎_elim
    (λ more. ap (λ zs. b ∷ zs) (parts_of bs more) ∙ sym (ap (λ zs. zs ++ 47 ∷ after_last_slash (b ∷ bs)) (cond-true (has_slash bs) (b ∷ before_last_slash bs) [] more) ∙ ap (λ zs. (b ∷ before_last_slash bs) ++ 47 ∷ zs) (cond-true (has_slash bs) (after_last_slash bs) bs more)))
    (λ none. ap (λ x. x ∷ bs) (eqb-true b 47 (⊎_elim (λ s. s) (λ h. absurd (both_ways _ none h)) (or_cases (is_slash b) (has_slash bs) has))) ∙ sym (ap (λ zs. zs ++ 47 ∷ after_last_slash (b ∷ bs)) (cond-false (has_slash bs) (b ∷ before_last_slash bs) [] none) ∙ ap (λ zs. 47 ∷ zs) (cond-false (has_slash bs) (after_last_slash bs) bs none)))
    (cases_Bool (has_slash bs))

no_stem : (text : List ℕ) → has_slash text ≡ false → length (before_last_slash text) ≡ 0
no_stem [] none = refl
no_stem (b ∷ bs) none = ap length (cond-false (has_slash bs) (b ∷ before_last_slash bs) [] ((or_parts (is_slash b) (has_slash bs) none).1))

-- a path is below its parent, unless that is the root
pub below_parent : (path above : List ℕ) → parent_of path ≡ Some above → is_root above ≡ false → IsBelow above path
below_parent path above is other =
    ⊎_elim
    (λ root. let e = sym (cond-true (is_root path) None _ root) ∙ is in absurd (cc))
    (λ child. ⊎_elim
    (λ empty. let e = sym (ap Some (cond-true _ (47 ∷ []) (before_last_slash path) empty)) ∙ sym (cond-false (is_root path) None _ child) ∙ is in
    absurd (both_ways (is_root above) other (ap is_root (sym (some_inj e)))))
    (λ filled. let e = some_inj (sym (ap Some (cond-false _ (47 ∷ []) (before_last_slash path) filled)) ∙ sym (cond-false (is_root path) None _ child) ∙ is) in
    (after_last_slash path, parts_of path (true_from_ne_false _ (λ none. both_ways _ filled (eq-eqb _ _ (no_stem path none)))) ∙ ap (λ stem. stem ++ 47 ∷ after_last_slash path) e))
    (cases_Bool (length (before_last_slash path) == 0)))
    (cases_Bool (is_root path))
