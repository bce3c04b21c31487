-- The prefix that a reader consumes, and numbers.
use Rattle.std.proofs.Common.{◌≡◌, ℕ, ℤ, ◌+◌, ◌^◌, ◌<◌, ◌≤◌, Bool, true, false, cond, ltb, eqb, List, [], ◌++◌, length, get_or, take, drop, Result, Ok, Err, refl, sym, ap, subst, ◌∙◌, append_assoc, arith, inl, inr}
use Rattle.std.specs.Prelude.{FitsSigned}
use Rattle.std.specs.Int.{Width, w32, w64, byte_len, from_be_bytes, to_be_bytes, cast_signed, cast_unsigned}
use Rattle.std.proofs.Math.Facts.{sfits_to_z, Fits-of_z}
use Rattle.std.proofs.lemmas.Bool.{cases_lt, ltb-false, le-ltb, eqb-true}
use Rattle.std.proofs.lemmas.Int.{to_z-of_z, of_z-to_z}
use Rattle.std.proofs.lemmas.List.{take_at, drop_at, take-append-drop, length-append, length-take, get_or-drop, get_or-take, get_or_past, get_or_append_left, get_or-append-add, nil_from_length, append-nil}
use Rattle.std.proofs.lemmas.Nat.{be_bytes_4, be_bytes_8, from_be_bytes-to_be_bytes_4, from_be_bytes-to_be_bytes_8}
use Rattle.zk_jute.specs.declared.fault.JuteFault.{JuteFault}
use Rattle.zk_jute.specs.declared.fault.JuteFault.TheVariants as faults
use Rattle.zk_jute.specs.Reading.{◌>>=◌, number_at, bytes_at, made_of, whole}

abbrev pub IsBytes : List ℕ → Type 0
IsBytes bytes = (i : ℕ) → get_or bytes i 0 < 256

IsBytes-drop : (n : ℕ) (bytes : List ℕ) → IsBytes bytes → IsBytes (drop n bytes)
IsBytes-drop n bytes h i = rw get_or-drop (h (n + i))

IsBytes-take : (n : ℕ) (bytes : List ℕ) → IsBytes bytes → IsBytes (take n bytes)
IsBytes-take n bytes h i =
    elim (cases_lt i n) [
      | inl lt ↦ rw (get_or-take n bytes i 0 lt) (h i)
      | inr le ↦ rw (get_or_past (take n bytes) i 0 (omega (arith, length-take n bytes))) (omega arith)
    ]

IsBytes-front : (front rest : List ℕ) → IsBytes (front ++ rest) → IsBytes front
IsBytes-front front rest h i =
    elim (cases_lt i (length front)) [
      | inl lt ↦ rw (← get_or_append_left front rest 0 i lt) (h i)
      | inr le ↦ rw (get_or_past front i 0 le) (omega arith)
    ]

IsBytes-back : (front rest : List ℕ) → IsBytes (front ++ rest) → IsBytes rest
IsBytes-back front rest h i = rw (← get_or-append-add front rest i 0) (h (length front + i))

-- the part between two others
pub IsBytes-between : (bytes front middle rest : List ℕ) → bytes ≡ (front ++ middle) ++ rest → IsBytes bytes → IsBytes middle
IsBytes-between bytes front middle rest parts fits =
    IsBytes-back front middle (IsBytes-front (front ++ middle) rest (subst IsBytes parts fits))

-- ---- readers

-- the prefix that a reader consumed
pub record TakesFront (bytes front rest : List ℕ) : Type 0 where
  pub parts : bytes ≡ front ++ rest
  pub rest_fits : IsBytes rest

-- a reader and a format are inverse: a value that is read is written as the consumed bytes, and a
-- written value is read, with any rest
pub record IsField {A : Type 0} (read : List ℕ → Result (A × List ℕ) JuteFault) (spell : A → List ℕ) (Fits : A → Type 0) : Type 0 where
  pub takes : (bytes : List ℕ) (x : A × List ℕ) → IsBytes bytes → read bytes ≡ Ok x → TakesFront bytes (spell x.0) x.1 × Fits x.0
  pub again : (x : A) (rest : List ℕ) → Fits x → read (spell x ++ rest) ≡ Ok (x, rest)

pub TakesFront-then : (a x b y c : List ℕ) → TakesFront a x b → TakesFront b y c → TakesFront a (x ++ y) c
TakesFront-then a x b y c p q = record { parts = p.parts ∙ ap (λ (t : List ℕ). x ++ t) q.parts ∙ sym (append_assoc x y c); rest_fits = q.rest_fits }

-- a reader that consumed everything
pub took_all : (bytes front : List ℕ) → TakesFront bytes front [] → bytes ≡ front
took_all bytes front took = took.parts ∙ append-nil front

-- the value of a step that did not fail
pub bind_ok : {A B : Type 0} (r : Result A JuteFault) (f : A → Result B JuteFault) (y : B) → (r >>= f) ≡ Ok y → (x : A) × (r ≡ Ok x) × (f x ≡ Ok y)
bind_ok (Ok x) f y e = (x, refl, e)
bind_ok (Err d) f y e = absurd cc

-- a field that was read first: its value, and that the rest was read after it
pub record FirstRead {A B : Type 0} (spell : A → List ℕ) (Fits : A → Type 0) (bytes : List ℕ) (f : A × List ℕ → Result B JuteFault) (y : B) : Type 0 where
  pub got : A × List ℕ
  pub goes : f got ≡ Ok y
  pub took : TakesFront bytes (spell got.0) got.1
  pub fits : Fits got.0

pub first_read : {A B : Type 0} (read : List ℕ → Result (A × List ℕ) JuteFault) (spell : A → List ℕ) (Fits : A → Type 0) → IsField read spell Fits → (bytes : List ℕ) (f : A × List ℕ → Result B JuteFault) (y : B) → IsBytes bytes → (read bytes >>= f) ≡ Ok y → FirstRead spell Fits bytes f y
first_read {A} {B} read spell Fits field bytes f y fits e =
    let b = bind_ok {A = A × List ℕ} {B = B} (read bytes) f y e in
    let t = field.takes bytes b.0 fits b.1 in
    record { got = b.0; goes = b.2; took = t.0; fits = t.1 }

-- a test that did not fail
pub guard_ok : {A : Type 0} (b : Bool) (d : JuteFault) (x y : A) → cond b (Err d) (Ok x) ≡ Ok y → (b ≡ false) × (x ≡ y)
guard_ok true d x y e = absurd cc
guard_ok false d x y e = (refl, cc)

pub guard_ended : {A : Type 0} (b : Bool) (d : JuteFault) (x y : A) → cond b (Ok x) (Err d) ≡ Ok y → (b ≡ true) × (x ≡ y)
guard_ended true d x y e = (refl, cc)
guard_ended false d x y e = absurd cc

abbrev pub done : {A : Type 0} → A → Result A JuteFault
done x = Ok x

pub ok_is : {A : Type 0} (x y : A) → done x ≡ done y → x ≡ y
ok_is x y e = cc

-- a property of the computed value holds for the result
pub at_ok : {A : Type 0} (P : A → Type 0) (x y : A) → done x ≡ done y → P x → P y
at_ok P x y e h = subst P (ok_is x y e) h

-- the same for a value computed from what was read
pub made_takes : {A B : Type 0} (read : List ℕ → Result (A × List ℕ) JuteFault) (spell : A → List ℕ) (Fits : A → Type 0) → IsField read spell Fits → (make : A → B) (bytes : List ℕ) (x : B × List ℕ) (P : B × List ℕ → Type 0) → IsBytes bytes → made_of make (read bytes) ≡ Ok x
    → ((y : A) (rest : List ℕ) → TakesFront bytes (spell y) rest → Fits y → P (make y, rest)) → P x
made_takes {A} {B} read spell Fits field make bytes x P fits e holds =
    let a = first_read read spell Fits field bytes (λ y. Ok (make y.0, y.1)) x fits e in
    let made : B × List ℕ = (make a.got.0, a.got.1) in
    at_ok P made x a.goes (holds a.got.0 a.got.1 a.took a.fits)

-- a value that was read with no rest
pub whole_ok : {A : Type 0} (read : Result (A × List ℕ) JuteFault) (y : A) → whole read ≡ Ok y → read ≡ Ok (y, [])
whole_ok {A} (Ok x) y e =
    let g = guard_ended (eqb (length x.1) 0) faults.Trailing x.0 y e in
    ap (λ (z : A). Ok (z, x.1)) g.1 ∙ ap (λ (r : List ℕ). Ok (y, r)) (nil_from_length x.1 (eqb-true _ _ g.0))
whole_ok (Err fault) y e = absurd cc

-- the result of one of two readers, by a test
pub either : {A : Type 0} (b : Bool) (first second : Result A JuteFault) (x : A) (P : Type 0) → ((b ≡ true) → first ≡ Ok x → P) → (second ≡ Ok x → P) → cond b first second ≡ Ok x → P
either true first second x P here there e = here refl e
either false first second x P here there e = there e

-- ---- numbers

-- a width with a known number of bytes
pub record IsWide (w : Width) (limit : ℕ) : Type 0 where
  pub len : (n : ℕ) → length (to_be_bytes w n) ≡ byte_len w
  pub back : (bytes : List ℕ) → length bytes ≡ byte_len w → IsBytes bytes → to_be_bytes w (from_be_bytes w bytes) ≡ bytes
  pub again : (n : ℕ) → n < limit → from_be_bytes w (to_be_bytes w n) ≡ n
  pub below : (bytes : List ℕ) → IsBytes bytes → from_be_bytes w bytes < limit
  pub signed : (n : ℕ) → n < limit → FitsSigned w (cast_signed w n)
  pub kept : (n : ℕ) → n < limit → cast_unsigned w (cast_signed w n) ≡ n
  pub unsigned : (z : ℤ) → FitsSigned w z → cast_unsigned w z < limit

pub wide32 : IsWide w32 (2 ^ 32)
wide32 = record {
  len = λ n. refl;
  back = λ bytes len fits. be_bytes_4 bytes _ len fits refl;
  again = λ n lt. from_be_bytes-to_be_bytes_4 n lt;
  below = λ bytes fits. omega (arith, fits 0, fits 1, fits 2, fits 3);
  signed = λ n lt. sfits_to_z {w = w32} (record { fits = lt });
  kept = λ n lt. of_z-to_z w32 n lt;
  unsigned = λ z fits. (Fits-of_z {w = w32} fits).fits;
}

pub wide64 : IsWide w64 (2 ^ 64)
wide64 = record {
  len = λ n. refl;
  back = λ bytes len fits. be_bytes_8 bytes _ len fits refl;
  again = λ n lt. from_be_bytes-to_be_bytes_8 n lt;
  below = λ bytes fits. omega (arith, fits 0, fits 1, fits 2, fits 3, fits 4, fits 5, fits 6, fits 7);
  signed = λ n lt. sfits_to_z {w = w64} (record { fits = lt });
  kept = λ n lt. of_z-to_z w64 n lt;
  unsigned = λ z fits. (Fits-of_z {w = w64} fits).fits;
}

abbrev pub signed_bytes : Width → ℤ → List ℕ
signed_bytes w z = to_be_bytes w (cast_unsigned w z)

number_takes : (w : Width) (limit : ℕ) (wide : IsWide w limit) (bytes : List ℕ) (x : ℤ × List ℕ) → IsBytes bytes → number_at w bytes ≡ Ok x → TakesFront bytes (signed_bytes w x.0) x.1 × FitsSigned w x.0
number_takes w limit wide bytes x fits e =
    let front = take (byte_len w) bytes in
    let n = from_be_bytes w front in
    let made : ℤ × List ℕ = (cast_signed w n, drop (byte_len w) bytes) in
    let g = guard_ok (ltb (length bytes) (byte_len w)) faults.Short made x e in
    let long : byte_len w ≤ length bytes = ltb-false _ _ g.0 in
    let len : length front ≡ byte_len w = omega (arith, length-take (byte_len w) bytes) in
    let lt : n < limit = wide.below front (IsBytes-take (byte_len w) bytes fits) in
    let spelled : signed_bytes w (cast_signed w n) ≡ front = ap (to_be_bytes w) (wide.kept n lt) ∙ wide.back front len (IsBytes-take (byte_len w) bytes fits) in
    let parts : bytes ≡ signed_bytes w (cast_signed w n) ++ drop (byte_len w) bytes = sym (ap (λ (xs : List ℕ). xs ++ drop (byte_len w) bytes) spelled ∙ take-append-drop (byte_len w) bytes) in
    subst (λ (y : ℤ × List ℕ). TakesFront bytes (signed_bytes w y.0) y.1 × FitsSigned w y.0) g.1 (record { parts = parts; rest_fits = IsBytes-drop (byte_len w) bytes fits }, wide.signed n lt)

number_again : (w : Width) (limit : ℕ) (wide : IsWide w limit) (z : ℤ) (rest : List ℕ) → FitsSigned w z → number_at w (signed_bytes w z ++ rest) ≡ Ok (z, rest)
number_again w limit wide z rest fits =
    let n = cast_unsigned w z in
    let len = wide.len n in
    let long : ltb (length (to_be_bytes w n ++ rest)) (byte_len w) ≡ false = le-ltb _ _ (omega (arith, length-append (to_be_bytes w n) rest)) in
    rw (long, take_at (to_be_bytes w n) rest (byte_len w) len, drop_at (to_be_bytes w n) rest (byte_len w) len, wide.again n (wide.unsigned z fits), to_z-of_z w z fits) refl

pub number_field : (w : Width) (limit : ℕ) (wide : IsWide w limit) → IsField (number_at w) (signed_bytes w) (FitsSigned w)
number_field w limit wide = record {
  takes = λ bytes x fits e. number_takes w limit wide bytes x fits e;
  again = λ z rest fits. number_again w limit wide z rest fits;
}

-- ---- bytes of a length

pub bytes_take : (n : ℕ) (bytes : List ℕ) (x : List ℕ × List ℕ) → IsBytes bytes → bytes_at n bytes ≡ Ok x → TakesFront bytes x.0 x.1 × (length x.0 ≡ n)
bytes_take n bytes x fits e =
    let g = guard_ok (ltb (length bytes) n) faults.Short (take n bytes, drop n bytes) x e in
    let long : n ≤ length bytes = ltb-false _ _ g.0 in
    subst (λ (y : List ℕ × List ℕ). TakesFront bytes y.0 y.1 × (length y.0 ≡ n)) g.1 (record { parts = sym (take-append-drop n bytes); rest_fits = IsBytes-drop n bytes fits }, omega (arith, length-take n bytes))

pub bytes_again : (front rest : List ℕ) → bytes_at (length front) (front ++ rest) ≡ Ok (front, rest)
bytes_again front rest =
    let long : ltb (length (front ++ rest)) (length front) ≡ false = le-ltb _ _ (omega (arith, length-append front rest)) in
    rw (long, take_at front rest (length front) refl, drop_at front rest (length front) refl) refl
