-- Words name at most one command, with one input and one output.
use Rattle.std.proofs.Common.{◌≡◌, Bool, ℕ, ◌*◌, ◌<◌, ◌^◌, ℤ, pos, negsuc, List, [], ◌∷◌, length, Option, Some, None, Ok, FitsSigned, refl, sym, ap, ◌∙◌, subst, codes, arith, to_z, of_z, w64}
use Rattle.std.proofs.lemmas.Int.{to_z-of_z}
use Rattle.std.specs.Int.{to_be_bytes, cast_unsigned}
use Rattle.hex.proofs.HexLemmas.{length-encode_with}
use Rattle.hex.specs.Hex.{encode_lower, lower_digits, decode_sized}
use Rattle.zk_format.specs.Spelling.{sixteen_digits, id_digits}
use Rattle.zk_cli_args.specs.Commands.{IsUpto, Names, NamesBy, given_by, prompts_of, upto_text}
use Rattle.zk_cli_args.specs.Zxids.{padded}
use Rattle.zk_cli_args.specs.declared.command.Order.{Order}
use Rattle.zk_cli_args.specs.declared.command.Order.TheVariants as orders
use Rattle.zk_cli_args.proofs.DigitsLaws.{digits_read, same_bits}

-- ---- zxids

bits_below : (z : ℤ) → FitsSigned w64 z → of_z w64 z < 2 ^ 64
bits_below (pos n) fits = let small : n < 2 ^ 63 = fits.sfits in omega arith
bits_below (negsuc n) fits = omega arith

pub one_number : (z y : ℤ) → FitsSigned w64 z → FitsSigned w64 y → id_digits z ≡ id_digits y → z ≡ y
one_number z y p q e =
    let n = of_z w64 z in
    let m = of_z w64 y in
    let word = sixteen_digits n in
    let bytes = to_be_bytes w64 n in
    let read : decode_sized word 8 ≡ Ok bytes = digits_read word n refl in
    let bits : n ≡ m = sym (same_bits word bytes n (bits_below z p) read refl) ∙ same_bits word bytes m (bits_below y q) read e in
    sym (to_z-of_z w64 z p) ∙ ap (to_z w64) bits ∙ to_z-of_z w64 y q

pub no_number : (z : ℤ) → codes "last" ≡ id_digits z → ⊥
unfolding sixteen_digits
no_number z e =
    let bytes = to_be_bytes w64 (cast_unsigned w64 z) in
    let long : length (encode_lower bytes) ≡ 2 * length bytes = length-encode_with lower_digits bytes in
    let short : 4 ≡ length (encode_lower bytes) = ap length e in
    let eight : length bytes ≡ 8 = refl in
    omega (arith, long, short, eight)

one_upto : (u v : Option ℤ) → IsUpto u → IsUpto v → upto_text u ≡ upto_text v → u ≡ v
one_upto None None p q e = refl
one_upto None (Some y) p q e = absurd (no_number y e)
one_upto (Some z) None p q e = absurd (no_number z (sym e))
one_upto (Some z) (Some y) p q e = ap Some (one_number z y p q e)

-- ---- commands

abbrev pub IsSame : Order → List ℕ → Option (List ℕ) → List ℕ → Order → List ℕ → Option (List ℕ) → List ℕ → Type 0
IsSame order input script output order' input' script' output' = (order ≡ order') × (input ≡ input') × (script ≡ script') × (output ≡ output')

-- by their first letters
abbrev pub first_letter : List ℕ → ℕ
first_letter [] = 0
first_letter (letter ∷ letters) = letter

pub apart : (a b : List ℕ) (m n : ℕ) → first_letter a ≡ m → first_letter b ≡ n → m < n → a ≡ b → ⊥
apart a b m n p q below e = let h : first_letter a ≡ first_letter b = ap first_letter e in omega (arith, p, q, below, h)

same_by : (name : List ℕ) (values : List (List ℕ)) (o o' : Order) (i i' : List ℕ) (s s' : Option (List ℕ)) (t t' : List ℕ) → prompts_of o ≡ prompts_of o' → NamesBy name values o i s t → NamesBy name values o' i' s' t' → IsSame o i s t o' i' s' t'
same_by name values (orders.Show u) (orders.Show v) i i' s s' t t' f p q =
    let both : i ∷ p.1.0 ∷ [] ≡ i' ∷ q.1.0 ∷ [] = sym p.1.1 ∙ q.1.1 in
    let input : i ≡ i' = cc both in
    let word : p.1.0 ≡ q.1.0 = cc both in
    let text : upto_text u ≡ upto_text v = sym p.1.2 ∙ ap padded word ∙ q.1.2 in
    (ap orders.Show (one_upto u v p.2 q.2 text), input, p.3 ∙ sym q.3, p.4 ∙ sym q.4)
same_by name values orders.List orders.List i i' s s' t t' f p q =
    let both : i ∷ [] ≡ i' ∷ [] = sym p.1 ∙ q.1 in
    (refl, cc both, p.2 ∙ sym q.2, p.3 ∙ sym q.3)
same_by name values orders.Asm orders.Asm i i' s s' t t' f p q =
    let both : i ∷ t ∷ [] ≡ i' ∷ t' ∷ [] = sym p.1 ∙ q.1 in
    (refl, cc both, p.2 ∙ sym q.2, cc both)
same_by name values orders.Debug orders.Debug i i' (Some s) (Some s') t t' f p q =
    let both : i ∷ s ∷ [] ≡ i' ∷ s' ∷ [] = sym p.1 ∙ q.1 in
    let script : s ≡ s' = cc both in
    (refl, cc both, ap Some script, p.3 ∙ sym q.3)
same_by name values orders.Run orders.Run i i' s s' t t' f p q =
    let both : i ∷ [] ≡ i' ∷ [] = sym p.1 ∙ q.1 in
    (refl, cc both, p.2 ∙ sym q.2, p.3 ∙ sym q.3)
same_by name values (orders.Session a) (orders.Session b) i i' s s' t t' f p q =
    let both : i ∷ [] ≡ i' ∷ [] = sym p.1 ∙ q.1 in
    (ap orders.Session f, cc both, p.3 ∙ sym q.3, p.4 ∙ sym q.4)
same_by name values (orders.Session a) (orders.Show u) i i' s s' t t' f p q = absurd (let e : codes "debug" ≡ codes "show" = sym p.0 ∙ q.0 in cc)
same_by name values (orders.Show u) (orders.Session a) i i' s s' t t' f p q = absurd (let e : codes "show" ≡ codes "debug" = sym p.0 ∙ q.0 in cc)
same_by name values (orders.Session a) orders.List i i' s s' t t' f p q = absurd (let e : codes "debug" ≡ codes "list" = sym p.0 ∙ q.0 in cc)
same_by name values orders.List (orders.Session a) i i' s s' t t' f p q = absurd (let e : codes "list" ≡ codes "debug" = sym p.0 ∙ q.0 in cc)
same_by name values (orders.Session a) orders.Asm i i' s s' t t' f p q = absurd (let e : codes "debug" ≡ codes "asm" = sym p.0 ∙ q.0 in cc)
same_by name values orders.Asm (orders.Session a) i i' s s' t t' f p q = absurd (let e : codes "asm" ≡ codes "debug" = sym p.0 ∙ q.0 in cc)
same_by name values (orders.Session a) orders.Run i i' s s' t t' f p q = absurd (let e : codes "debug" ≡ codes "run" = sym p.0 ∙ q.0 in cc)
same_by name values orders.Run (orders.Session a) i i' s s' t t' f p q = absurd (let e : codes "run" ≡ codes "debug" = sym p.0 ∙ q.0 in cc)
same_by name values (orders.Session a) orders.Debug i i' s None t t' f p q = absurd q
same_by name values (orders.Session a) orders.Debug i i' s (Some s') t t' f p q = absurd (let e : i ∷ [] ≡ i' ∷ s' ∷ [] = sym p.1 ∙ q.1 in cc)
same_by name values orders.Debug (orders.Session a) i i' None s' t t' f p q = absurd p
same_by name values orders.Debug (orders.Session a) i i' (Some s) s' t t' f p q = absurd (let e : i ∷ s ∷ [] ≡ i' ∷ [] = sym p.1 ∙ q.1 in cc)
same_by name values orders.Run (orders.Show v) i i' s s' t t' f p q = absurd (let e : codes "run" ≡ codes "show" = sym p.0 ∙ q.0 in cc)
same_by name values orders.Run orders.List i i' s s' t t' f p q = absurd (let e : codes "run" ≡ codes "list" = sym p.0 ∙ q.0 in cc)
same_by name values orders.Run orders.Asm i i' s s' t t' f p q = absurd (let e : codes "run" ≡ codes "asm" = sym p.0 ∙ q.0 in cc)
same_by name values orders.Run orders.Debug i i' s None t t' f p q = absurd q
same_by name values orders.Run orders.Debug i i' s (Some s') t t' f p q = absurd (let e : codes "run" ≡ codes "debug" = sym p.0 ∙ q.0 in cc)
same_by name values (orders.Show u) orders.Run i i' s s' t t' f p q = absurd (let e : codes "show" ≡ codes "run" = sym p.0 ∙ q.0 in cc)
same_by name values orders.List orders.Run i i' s s' t t' f p q = absurd (let e : codes "list" ≡ codes "run" = sym p.0 ∙ q.0 in cc)
same_by name values orders.Asm orders.Run i i' s s' t t' f p q = absurd (let e : codes "asm" ≡ codes "run" = sym p.0 ∙ q.0 in cc)
same_by name values orders.Debug orders.Run i i' None s' t t' f p q = absurd p
same_by name values orders.Debug orders.Run i i' (Some s) s' t t' f p q = absurd (let e : codes "debug" ≡ codes "run" = sym p.0 ∙ q.0 in cc)
same_by name values (orders.Show u) orders.List i i' s s' t t' f p q = absurd (let e : codes "show" ≡ codes "list" = sym p.0 ∙ q.0 in cc)
same_by name values (orders.Show u) orders.Asm i i' s s' t t' f p q = absurd (let e : codes "show" ≡ codes "asm" = sym p.0 ∙ q.0 in cc)
same_by name values (orders.Show u) orders.Debug i i' s None t t' f p q = absurd q
same_by name values (orders.Show u) orders.Debug i i' s (Some s') t t' f p q = absurd (let e : codes "show" ≡ codes "debug" = sym p.0 ∙ q.0 in cc)
same_by name values orders.List (orders.Show v) i i' s s' t t' f p q = absurd (let e : codes "list" ≡ codes "show" = sym p.0 ∙ q.0 in cc)
same_by name values orders.List orders.Asm i i' s s' t t' f p q = absurd (let e : codes "list" ≡ codes "asm" = sym p.0 ∙ q.0 in cc)
same_by name values orders.List orders.Debug i i' s None t t' f p q = absurd q
same_by name values orders.List orders.Debug i i' s (Some s') t t' f p q = absurd (let e : codes "list" ≡ codes "debug" = sym p.0 ∙ q.0 in cc)
same_by name values orders.Asm (orders.Show v) i i' s s' t t' f p q = absurd (let e : codes "asm" ≡ codes "show" = sym p.0 ∙ q.0 in cc)
same_by name values orders.Asm orders.List i i' s s' t t' f p q = absurd (let e : codes "asm" ≡ codes "list" = sym p.0 ∙ q.0 in cc)
same_by name values orders.Asm orders.Debug i i' s None t t' f p q = absurd q
same_by name values orders.Asm orders.Debug i i' s (Some s') t t' f p q = absurd (let e : codes "asm" ≡ codes "debug" = sym p.0 ∙ q.0 in cc)
same_by name values orders.Debug (orders.Show v) i i' None s' t t' f p q = absurd p
same_by name values orders.Debug (orders.Show v) i i' (Some s) s' t t' f p q = absurd (let e : codes "debug" ≡ codes "show" = sym p.0 ∙ q.0 in cc)
same_by name values orders.Debug orders.List i i' None s' t t' f p q = absurd p
same_by name values orders.Debug orders.List i i' (Some s) s' t t' f p q = absurd (let e : codes "debug" ≡ codes "list" = sym p.0 ∙ q.0 in cc)
same_by name values orders.Debug orders.Asm i i' None s' t t' f p q = absurd p
same_by name values orders.Debug orders.Asm i i' (Some s) s' t t' f p q = absurd (let e : codes "debug" ≡ codes "asm" = sym p.0 ∙ q.0 in cc)
same_by name values orders.Debug orders.Debug i i' None s' t t' f p q = absurd p
same_by name values orders.Debug orders.Debug i i' (Some s) None t t' f p q = absurd q
same_by name values orders.Mend orders.Mend i i' s s' t t' f p q =
    let both : i ∷ t ∷ [] ≡ i' ∷ t' ∷ [] = sym p.1 ∙ q.1 in
    (refl, cc both, p.2 ∙ sym q.2, cc both)
same_by name values orders.Mend (orders.Show v) i i' s s' t t' f p q = absurd (apart (codes "mend") (codes "show") 109 115 refl refl (omega arith) (sym p.0 ∙ q.0))
same_by name values orders.Mend orders.List i i' s s' t t' f p q = absurd (apart (codes "list") (codes "mend") 108 109 refl refl (omega arith) (sym q.0 ∙ p.0))
same_by name values orders.Mend orders.Asm i i' s s' t t' f p q = absurd (apart (codes "asm") (codes "mend") 97 109 refl refl (omega arith) (sym q.0 ∙ p.0))
same_by name values orders.Mend orders.Run i i' s s' t t' f p q = absurd (apart (codes "mend") (codes "run") 109 114 refl refl (omega arith) (sym p.0 ∙ q.0))
same_by name values orders.Mend orders.Debug i i' s None t t' f p q = absurd q
same_by name values orders.Mend orders.Debug i i' s (Some s') t t' f p q = absurd (apart (codes "debug") (codes "mend") 100 109 refl refl (omega arith) (sym q.0 ∙ p.0))
same_by name values (orders.Show u) orders.Mend i i' s s' t t' f p q = absurd (apart (codes "mend") (codes "show") 109 115 refl refl (omega arith) (sym q.0 ∙ p.0))
same_by name values orders.List orders.Mend i i' s s' t t' f p q = absurd (apart (codes "list") (codes "mend") 108 109 refl refl (omega arith) (sym p.0 ∙ q.0))
same_by name values orders.Asm orders.Mend i i' s s' t t' f p q = absurd (apart (codes "asm") (codes "mend") 97 109 refl refl (omega arith) (sym p.0 ∙ q.0))
same_by name values orders.Run orders.Mend i i' s s' t t' f p q = absurd (apart (codes "mend") (codes "run") 109 114 refl refl (omega arith) (sym q.0 ∙ p.0))
same_by name values orders.Debug orders.Mend i i' None s' t t' f p q = absurd p
same_by name values orders.Debug orders.Mend i i' (Some s) s' t t' f p q = absurd (apart (codes "debug") (codes "mend") 100 109 refl refl (omega arith) (sym p.0 ∙ q.0))
same_by name values orders.Mend (orders.Session a) i i' s s' t t' f p q = absurd (apart (codes "debug") (codes "mend") 100 109 refl refl (omega arith) (sym q.0 ∙ p.0))
same_by name values (orders.Session a) orders.Mend i i' s s' t t' f p q = absurd (apart (codes "debug") (codes "mend") 100 109 refl refl (omega arith) (sym p.0 ∙ q.0))

same_given : (x y : Bool × List (List ℕ)) → Some x ≡ Some y → x ≡ y
same_given x y e = cc

pub same_named : (words : List (List ℕ)) (o o' : Order) (i i' : List ℕ) (s s' : Option (List ℕ)) (t t' : List ℕ) → Names words o i s t → Names words o' i' s' t' → IsSame o i s t o' i' s' t'
same_named words o o' i i' s s' t t' p q =
    let both : p.program ∷ p.name ∷ p.rest ≡ q.program ∷ q.name ∷ q.rest = sym p.spelled ∙ q.spelled in
    let name : q.name ≡ p.name = cc both in
    let rest : q.rest ≡ p.rest = cc both in
    let found : Some (prompts_of o', q.values) ≡ Some (prompts_of o, p.values) = sym q.given ∙ ap given_by rest ∙ p.given in
    let given = same_given (prompts_of o', q.values) (prompts_of o, p.values) found in
    let values : q.values ≡ p.values = ap (λ (x : Bool × List (List ℕ)). x.1) given in
    let prompts : prompts_of o ≡ prompts_of o' = sym (ap (λ (x : Bool × List (List ℕ)). x.0) given) in
    same_by p.name p.values o o' i i' s s' t t' prompts p.named
    (subst (λ (n : List ℕ). NamesBy n p.values o' i' s' t') name (subst (λ (v : List (List ℕ)). NamesBy q.name v o' i' s' t') values q.named))
