-- Where fields end.
use Rattle.std.proofs.Common.{◌≡◌, ◌≢◌, eqb, ℕ, suc, ◌+◌, ◌-◌, ◌≤◌, ◌<◌, ◌||◌, zero, Bool, true, false, List, [], ◌∷◌, length, take, drop, get_or, Option, None, refl, sym, ◌∙◌, ap, arith, inl, inr}
use Rattle.std.proofs.lemmas.Bool.{cases_eq, cases_lt, lt-ltb, le-ltb}
use Rattle.std.proofs.lemmas.Bool.Decides.{nat_tests}
use Rattle.std.proofs.lemmas.List.{drop-drop, length-drop, length-take-le}
use Rattle.std.proofs.lemmas.List.Sums.{prefix_len-le-length}
use Rattle.std.proofs.lemmas.Str.{IsCharBoundary-before_ascii, IsCharBoundary-end}
use Rattle.std.specs.List.{list_any, position, position_or_len}
use Rattle.std.specs.Option.{unwrap_or}
use Rattle.std.specs.Str.{IsUtf8, IsCharBoundary}
use Rattle.zk_listing.specs.Reading.{is_end, front_of, back_of, of_field, past}

one_more : (n : ℕ) → 1 + n ≡ suc n
one_more n = omega arith

front_of-cons : (b : ℕ) (bs : List ℕ) (v : Bool) → is_end b ≡ v → front_of bs ≡ take (position_or_len is_end bs) bs → front_of (b ∷ bs) ≡ take (position_or_len is_end (b ∷ bs)) (b ∷ bs)
unfolding front_of
front_of-cons b bs true e rest = rw e refl
front_of-cons b bs false e rest = rw (e, one_more (position_or_len is_end bs)) (ap (λ xs. b ∷ xs) rest)

pub front_of-take : (bytes : List ℕ) → front_of bytes ≡ take (position_or_len is_end bytes) bytes
unfolding front_of
front_of-take [] = refl
front_of-take (b ∷ bs) = front_of-cons b bs (is_end b) refl (front_of-take bs)

back_of-cons : (b : ℕ) (bs : List ℕ) (v : Bool) → is_end b ≡ v → back_of bs ≡ drop (position_or_len is_end bs) bs → back_of (b ∷ bs) ≡ drop (position_or_len is_end (b ∷ bs)) (b ∷ bs)
unfolding back_of
back_of-cons b bs true e rest = rw e refl
back_of-cons b bs false e rest = rw (e, one_more (position_or_len is_end bs)) rest

pub back_of-drop : (bytes : List ℕ) → back_of bytes ≡ drop (position_or_len is_end bytes) bytes
unfolding back_of
back_of-drop [] = refl
back_of-drop (b ∷ bs) = back_of-cons b bs (is_end b) refl (back_of-drop bs)

pub position-unwrap_or : (bytes : List ℕ) → unwrap_or (position is_end bytes) (length bytes) ≡ position_or_len is_end bytes
position-unwrap_or bytes =
    let n = position_or_len is_end bytes in
    let le : n ≤ length bytes = prefix_len-le-length _ bytes in
    elim (cases_lt n (length bytes)) [
      | inl lt ↦ rw (lt-ltb n (length bytes) lt) refl
      | inr ge ↦ rw (le-ltb n (length bytes) ge) (omega arith)
    ]

-- no end is among the first bytes
no_end-cons : (n b : ℕ) (bs : List ℕ) (v : Bool) → is_end b ≡ v → (list_any is_end (take n bs) ≡ false → position_or_len is_end bs ≡ n + position_or_len is_end (drop n bs)) → (v || list_any is_end (take n bs)) ≡ false
    → position_or_len is_end (b ∷ bs) ≡ suc n + position_or_len is_end (drop n bs)
no_end-cons n b bs true e rest none = absurd (let bad : true ≡ false = none in cc)
no_end-cons n b bs false e rest none = rw e (omega (arith, rest none))

pub no_end : (n : ℕ) (bytes : List ℕ) → n ≤ length bytes → list_any is_end (take n bytes) ≡ false → position_or_len is_end bytes ≡ n + position_or_len is_end (drop n bytes)
no_end zero bytes within none = omega arith
no_end (suc n) [] within none = absurd (omega (arith, within))
no_end (suc n) (b ∷ bs) within none = no_end-cons n b bs (is_end b) refl (λ rest. no_end n bs (omega (arith, within)) rest) none

pub no_end_in_step : (bytes step : List ℕ) (start more : ℕ) → more ≤ length bytes → start + 32 ≡ more → step ≡ take 32 (drop start bytes) → list_any is_end step ≡ false
    → position_or_len is_end bytes ≡ start + position_or_len is_end (drop start bytes) → position_or_len is_end bytes ≡ more + position_or_len is_end (drop more bytes)
no_end_in_step bytes step start more within on is none before =
    let here : position_or_len is_end (drop start bytes) ≡ 32 + position_or_len is_end (drop 32 (drop start bytes)) =
    no_end 32 (drop start bytes) (omega (arith, within, on, length-drop start bytes)) (ap (list_any is_end) (sym is) ∙ none) in
    let further : drop 32 (drop start bytes) ≡ drop more bytes = drop-drop 32 start bytes ∙ ap (λ n. drop n bytes) on in
    omega (arith, before, here, ap (position_or_len is_end) further, on)

pub end_within : (start end : ℕ) (bytes : List ℕ) → end ≡ position_or_len is_end (take (length bytes - start) (drop start bytes)) → start ≤ length bytes → start + end ≤ length bytes
end_within start end bytes is within =
    let rest = take (length bytes - start) (drop start bytes) in
    let le : position_or_len is_end rest ≤ length rest = prefix_len-le-length _ rest in
    omega (arith, is, within, le, length-take-le (length bytes - start) (drop start bytes) (omega (arith, length-drop start bytes)))

-- an end is an ASCII byte
end_small-cons : (b : ℕ) (bs : List ℕ) (v : Bool) → is_end b ≡ v → (position_or_len is_end bs < length bs → get_or bs (position_or_len is_end bs) 0 < 128) → position_or_len is_end (b ∷ bs) < length (b ∷ bs) → get_or (b ∷ bs) (position_or_len is_end (b ∷ bs)) 0 < 128
end_small-cons b bs true e rest h = rw e (grind (arith, nat_tests))
end_small-cons b bs false e rest h =
    let inner : 1 + position_or_len is_end bs < suc (length bs) = rw e at h in
    rw (e, one_more (position_or_len is_end bs)) (rest (omega arith))

end_small : (bytes : List ℕ) → position_or_len is_end bytes < length bytes → get_or bytes (position_or_len is_end bytes) 0 < 128
end_small [] h = absurd (omega arith)
end_small (b ∷ bs) h = end_small-cons b bs (is_end b) refl (λ inner. end_small bs inner) h

pub field_boundary : (bytes : List ℕ) → IsUtf8 bytes → IsCharBoundary bytes (position_or_len is_end bytes)
field_boundary bytes utf8 =
    let n = position_or_len is_end bytes in
    let le : n ≤ length bytes = prefix_len-le-length _ bytes in
    elim (cases_lt n (length bytes)) [
      | inl lt ↦ IsCharBoundary-before_ascii bytes n lt (end_small bytes lt)
      | inr ge ↦ let same : n ≡ length bytes = omega arith in rw same (IsCharBoundary-end bytes)
    ]

pub nothing_in_front : {X : Type 0} (from : List ℕ → Option X) (bytes : List ℕ) → from [] ≡ None → front_of bytes ≡ [] → of_field from bytes ≡ None
nothing_in_front from bytes none e = rw (e, none) refl

pub past_none : (c : ℕ) (bytes : List ℕ) → ((rest : List ℕ) → bytes ≢ c ∷ rest) → past c bytes ≡ None
past_none c [] h = refl
past_none c (b ∷ bs) h =
    elim (cases_eq b c) [
      | inl same ↦ absurd (h bs (ap (λ (x : ℕ). x ∷ bs) same))
      | inr other ↦ let differs : eqb b c ≡ false = grind (arith, nat_tests) in rw differs refl
    ]
