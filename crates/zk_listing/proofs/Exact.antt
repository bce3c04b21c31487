-- A reading is exact: a value that is read is written as the text it consumed, and a written value
-- is read, if a field may end after it.
use Rattle.std.proofs.Common.{◌≡◌, ℕ, true, false, cond, eqb, List, [], ◌∷◌, ◌++◌, Option, Some, None, refl, ap, sym, ◌∙◌, subst, append_assoc, arith}
use Rattle.std.proofs.lemmas.Bool.Decides.{nat_tests}
use Rattle.std.proofs.lemmas.Option.{cond_some}
use Rattle.std.specs.List.{AllByRecursion}
use Rattle.std.specs.Option.{option_and_then}
use Rattle.zk_listing.specs.Reading.{IsEnd, is_end, front_of, back_of, of_field, past, spaced, both, mapped}

pub record IsExact {X : Type 0} (spell : X → List ℕ) (Fits : X → Type 0) (at : List ℕ → Option (X × List ℕ)) : Type 0 where
  pub takes : (bytes : List ℕ) (x : X) (rest : List ℕ) → at bytes ≡ Some (x, rest) → Fits x × (bytes ≡ spell x ++ rest)
  pub again : (x : X) (rest : List ℕ) → Fits x → IsEnd rest → at (spell x ++ rest) ≡ Some (x, rest)

-- the same for a value in one field
pub record IsExactField {X : Type 0} (spell : X → List ℕ) (Fits : X → Type 0) (from : List ℕ → Option X) : Type 0 where
  pub takes : (field : List ℕ) (x : X) → from field ≡ Some x → Fits x × (field ≡ spell x)
  pub again : (x : X) → Fits x → from (spell x) ≡ Some x
  pub plain : (x : X) → Fits x → AllByRecursion (λ b. is_end b ≡ false) (spell x)

-- ---- steps

pub bind_some : {A B : Type 0} (o : Option A) (f : A → Option B) (y : B) → option_and_then f o ≡ Some y → (x : A) × (o ≡ Some x) × (f x ≡ Some y)
bind_some None f y h = absurd (let e : None ≡ Some y = h in cc)
bind_some (Some x) f y h = (x, refl, h)

pub some_is : {A : Type 0} (x y : A) → Some x ≡ Some y → x ≡ y
some_is x y h = cc

pub first_is : {A B : Type 0} (p q : A × B) → Some p ≡ Some q → p.0 ≡ q.0
first_is p q h = ap (λ w. w.0) (some_is p q h)

pub second_is : {A B : Type 0} (p q : A × B) → Some p ≡ Some q → p.1 ≡ q.1
second_is p q h = ap (λ w. w.1) (some_is p q h)

pub past_is : (c : ℕ) (bytes rest : List ℕ) → past c bytes ≡ Some rest → bytes ≡ c ∷ rest
past_is c [] rest h = absurd (let e : None ≡ Some rest = h in cc)
past_is c (b ∷ bs) rest h =
    let found = cond_some (eqb b c) bs rest h in
    let same : b ≡ c = grind (arith, nat_tests) in
    ap (λ x. x ∷ bs) same ∙ ap (λ xs. c ∷ xs) found.1

pub past_self : (c : ℕ) (rest : List ℕ) → past c (c ∷ rest) ≡ Some rest
past_self c rest = let same : eqb c c ≡ true = grind (arith, nat_tests) in rw same refl

-- ---- fields

pub front-back : (bytes : List ℕ) → bytes ≡ front_of bytes ++ back_of bytes
unfolding front_of back_of
front-back [] = refl
front-back (b ∷ bs) = elim (is_end b) as (λ v. b ∷ bs ≡ cond v [] (b ∷ front_of bs) ++ cond v (b ∷ bs) (back_of bs)) [
  | true ↦ refl
  | false ↦ ap (λ xs. b ∷ xs) (front-back bs)
]

front_end : (rest : List ℕ) → IsEnd rest → front_of rest ≡ []
unfolding front_of
front_end [] h = refl
front_end (b ∷ bs) h = rw h refl

back_end : (rest : List ℕ) → IsEnd rest → back_of rest ≡ rest
unfolding back_of
back_end [] h = refl
back_end (b ∷ bs) h = rw h refl

pub front_again : (field rest : List ℕ) → AllByRecursion (λ b. is_end b ≡ false) field → IsEnd rest → front_of (field ++ rest) ≡ field
unfolding front_of
front_again [] rest h e = front_end rest e
front_again (b ∷ bs) rest h e = rw h.0 (ap (λ xs. b ∷ xs) (front_again bs rest h.1 e))

pub back_again : (field rest : List ℕ) → AllByRecursion (λ b. is_end b ≡ false) field → IsEnd rest → back_of (field ++ rest) ≡ rest
unfolding back_of
back_again [] rest h e = back_end rest e
back_again (b ∷ bs) rest h e = rw h.0 (back_again bs rest h.1 e)

pub exact_field : {X : Type 0} (spell : X → List ℕ) (Fits : X → Type 0) (from : List ℕ → Option X) → IsExactField spell Fits from → IsExact spell Fits (of_field from)
exact_field {X} spell Fits from f = record {
  takes = λ bytes x rest h.
      let p = bind_some {B = X × List ℕ} (from (front_of bytes)) (λ y. Some (y, back_of bytes)) (x, rest) h in
      let same : p.0 ≡ x = first_is (p.0, back_of bytes) (x, rest) p.2 in
      let behind_it : back_of bytes ≡ rest = second_is (p.0, back_of bytes) (x, rest) p.2 in
      let made : from (front_of bytes) ≡ Some x = p.1 ∙ ap Some same in
      let t = f.takes (front_of bytes) x made in
      (t.0, front-back bytes ∙ ap (λ xs. xs ++ back_of bytes) t.1 ∙ ap (λ xs. spell x ++ xs) behind_it);
  again = λ x rest fits e.
      let plain = f.plain x fits in
      rw (front_again (spell x) rest plain e, back_again (spell x) rest plain e, f.again x fits) refl;
}

-- ---- values in order

pub exact_spaced : {X : Type 0} (spell : X → List ℕ) (Fits : X → Type 0) (at : List ℕ → Option (X × List ℕ)) → IsExact spell Fits at → IsExact (λ x. 32 ∷ spell x) Fits (spaced at)
exact_spaced {X} spell Fits at f = record {
  takes = λ bytes x rest h.
      let p = bind_some {B = X × List ℕ} (past 32 bytes) at (x, rest) h in
      let t = f.takes p.0 x rest p.2 in
      (t.0, past_is 32 bytes p.0 p.1 ∙ ap (λ xs. 32 ∷ xs) t.1);
  again = λ x rest fits e. f.again x rest fits e;
}

pub exact_both : {X Y : Type 0} (s : X → List ℕ) (F : X → Type 0) (a : List ℕ → Option (X × List ℕ)) (t : Y → List ℕ) (G : Y → Type 0) (b : List ℕ → Option (Y × List ℕ)) → IsExact s F a → IsExact t G b → ((y : Y) (rest : List ℕ) → IsEnd (t y ++ rest)) → IsExact {X = X × Y} (λ p. s p.0 ++ t p.1) (λ p. F p.0 × G p.1) (both a b)
exact_both {X} {Y} s F a t G b f g ends = record {
  takes = λ bytes x rest h.
      let p = bind_some {B = (X × Y) × List ℕ} (a bytes) (λ v. option_and_then (λ y. Some ((v.0, y.0), y.1)) (b v.1)) (x, rest) h in
      let q = bind_some {B = (X × Y) × List ℕ} (b p.0.1) (λ y. Some ((p.0.0, y.0), y.1)) (x, rest) p.2 in
      let values : (p.0.0, q.0.0) ≡ x = first_is ((p.0.0, q.0.0), q.0.1) (x, rest) q.2 in
      let behind_it : q.0.1 ≡ rest = second_is ((p.0.0, q.0.0), q.0.1) (x, rest) q.2 in
      let one = f.takes bytes p.0.0 p.0.1 p.1 in
      let other = g.takes p.0.1 q.0.0 q.0.1 q.1 in
      let whole : bytes ≡ (s p.0.0 ++ t q.0.0) ++ q.0.1 = one.1 ∙ ap (λ xs. s p.0.0 ++ xs) other.1 ∙ sym (append_assoc (s p.0.0) (t q.0.0) q.0.1) in
      let fits : F p.0.0 × G q.0.0 = (one.0, other.0) in
      let P : X × Y → Type 0 = λ v. (F v.0 × G v.1) × (bytes ≡ (s v.0 ++ t v.1) ++ q.0.1) in
      let at_x : P x = subst P values (fits, whole) in
      (at_x.0, at_x.1 ∙ ap (λ xs. (s x.0 ++ t x.1) ++ xs) behind_it);
  again = λ x rest fits e.
      rw (append_assoc (s x.0) (t x.1) rest, f.again x.0 (t x.1 ++ rest) fits.0 (ends x.1 rest), g.again x.1 rest fits.1 e) refl;
}

pub exact_mapped : {X Y : Type 0} (s : X → List ℕ) (F : X → Type 0) (at : List ℕ → Option (X × List ℕ)) (t : Y → List ℕ) (G : Y → Type 0) (to : X → Y) (back : Y → X) → IsExact s F at → ((y : Y) → to (back y) ≡ y) → ((x : X) → t (to x) ≡ s x) → ((x : X) → F x → G (to x)) → ((y : Y) → G y → F (back y)) → IsExact t G (mapped to at)
exact_mapped {X} {Y} s F at t G to back f same texts fits fits_back = record {
  takes = λ bytes y rest h.
      let p = bind_some {B = Y × List ℕ} (at bytes) (λ v. Some (to v.0, v.1)) (y, rest) h in
      let value : to p.0.0 ≡ y = first_is (to p.0.0, p.0.1) (y, rest) p.2 in
      let behind_it : p.0.1 ≡ rest = second_is (to p.0.0, p.0.1) (y, rest) p.2 in
      let found = f.takes bytes p.0.0 p.0.1 p.1 in
      let whole : bytes ≡ t (to p.0.0) ++ p.0.1 = found.1 ∙ ap (λ xs. xs ++ p.0.1) (sym (texts p.0.0)) in
      let P : Y → Type 0 = λ v. G v × (bytes ≡ t v ++ p.0.1) in
      let at_y : P y = subst P value (fits p.0.0 found.0, whole) in
      (at_y.0, at_y.1 ∙ ap (λ xs. t y ++ xs) behind_it);
  again = λ y rest fit e.
      let text : t y ≡ s (back y) = ap t (sym (same y)) ∙ texts (back y) in
      rw (text, f.again (back y) rest (fits_back y fit) e) (ap (λ v. Some (v, rest)) (same y));
}
