-- The servers that words name.
use Rattle.std.proofs.Common.{◌≡◌, ◌≢◌, ◌==◌, true, false, ℕ, ◌<◌, ◌≤◌, ◌^◌, ℤ, pos, List, [], ◌∷◌, ◌-◌, Bor, get_or, take, drop, length, Option, Some, None, Result, Ok, Err, ◌⊎◌, inl, inr, FitsSigned, IfOk, OkIff, unsigned_abs, refl, sym, ap, ◌∙◌, subst, codes, arith, append-nil, to_z, of_z, w64}
use Rattle.std.proofs.lemmas.Int.{to_z-of_z}
use Rattle.std.proofs.lemmas.List.{take_all}
use Rattle.std.specs.Fmt.{signed_decimal}
use Rattle.std.specs.Int.{FitsUnsignedBits}
use Rattle.std.specs.Result.{result_ok}
use Rattle.zk_listing.specs.Promises.{ReadsOnly}
use Rattle.zk_listing.specs.declared.list_fault.ListCause.{ListCause}
use Rattle.zk_cli_args.specs.Serving.{NamesBehind, NamesServers, ReadsDecimal, ReadsServers, ReadsServersOf, ReadsServing, ReadsServingBehind, ReadsServingNamed, SpellsWithin}
use Rattle.zk_cli_args.specs.declared.serving.Serving.{Serving}
use Rattle.zk_cli_args.proofs.WordsLaws.{no_word, texts}

-- ---- numbers

-- a decimal before other text is not a whole one
pub leaves_more : (read : Result ℤ ListCause) (x : ℤ) (word rest : List ℕ) → ReadsOnly (λ (z : ℤ). z) signed_decimal (FitsSigned w64) read word rest → result_ok read ≡ Some x → false ≡ (length rest == 0)
    → (y : ℤ) → FitsSigned w64 y → word ≡ signed_decimal y → ⊥
leaves_more (Ok z) x word rest only e more y fits f =
    let both = only y [] fits tt (f ∙ sym (append-nil (signed_decimal y))) in
    let never : false ≡ true = subst (λ (l : List ℕ). false ≡ (length l == 0)) both.1 more in
    cc
leaves_more (Err cause) x word rest only e more y fits f = cc

small_fits : (n : ℕ) → n < 2 ^ 32 → FitsSigned w64 (pos n)
small_fits n small = record { sfits = omega arith }

-- a word that is not a decimal is in no range
pub no_decimal : (least most : ℕ) (word : List ℕ) → most < 2 ^ 32 → ((y : ℤ) → FitsSigned w64 y → word ≢ signed_decimal y) → (n : ℕ) → SpellsWithin least most word n → ⊥
no_decimal least most word small none n within =
    let few : n ≤ most = within.few in
    none (pos n) (small_fits n (omega arith)) within.spelled

-- a decimal in the range is the one that was read
pub same_decimal : (least most : ℕ) (word : List ℕ) (z : ℤ) → most < 2 ^ 32 → ReadsDecimal word (Some z) → (n : ℕ) → SpellsWithin least most word n → z ≡ pos n
same_decimal least most word z small read n within =
    let few : n ≤ most = within.few in
    read.2 (pos n) (small_fits n (omega arith)) within.spelled

no_u32 : {E : Type 0} (made : Result ℕ E) (z : ℤ) → OkIff made (FitsUnsignedBits 32 z) (unsigned_abs z) → result_ok made ≡ None → (n : ℕ) → n < 2 ^ 32 → z ≡ pos n → ⊥
no_u32 (Ok x) z p e n small same = cc
no_u32 (Err fault) z p e n small same = p (subst (λ (y : ℤ). FitsUnsignedBits 32 y) (sym same) small)

same_some : (x m : ℕ) → Some x ≡ Some m → x ≡ m
same_some x m e = cc

is_u32 : {E : Type 0} (made : Result ℕ E) (z : ℤ) (m : ℕ) → OkIff made (FitsUnsignedBits 32 z) (unsigned_abs z) → result_ok made ≡ Some m → (n : ℕ) → z ≡ pos n → m ≡ n
is_u32 (Ok x) z m p e n same = sym (same_some x m e) ∙ p.1 ∙ ap unsigned_abs same
is_u32 (Err fault) z m p e n same = absurd (cc e)

-- a decimal that does not fit 32 bits is in no smaller range
pub too_large : {E : Type 0} (made : Result ℕ E) (least most : ℕ) (word : List ℕ) (z : ℤ) → most < 2 ^ 32 → ReadsDecimal word (Some z) → OkIff made (FitsUnsignedBits 32 (to_z w64 (of_z w64 z))) (unsigned_abs (to_z w64 (of_z w64 z))) → result_ok made ≡ None
    → (n : ℕ) → SpellsWithin least most word n → ⊥
too_large made least most word z small read p e n within =
    let few : n ≤ most = within.few in
    no_u32 made z (subst (λ (y : ℤ). OkIff made (FitsUnsignedBits 32 y) (unsigned_abs y)) (to_z-of_z w64 z read.0) p) e n (omega (arith, few, small)) (same_decimal least most word z small read n within)

out_of : (least most m n : ℕ) → (m < least) ⊎ ((least ≤ m) × (most < m)) → m ≡ n → least ≤ n → n ≤ most → ⊥
out_of least most m n (inl below) e p q = omega (arith, below, e, p, q)
out_of least most m n (inr above) e p q = let h : most < m = above.1 in omega (arith, h, e, p, q)

-- a decimal outside the range
pub out_of_range : {E : Type 0} (made : Result ℕ E) (least most m : ℕ) (word : List ℕ) (z : ℤ) → most < 2 ^ 32 → ReadsDecimal word (Some z)
    → OkIff made (FitsUnsignedBits 32 (to_z w64 (of_z w64 z))) (unsigned_abs (to_z w64 (of_z w64 z))) → result_ok made ≡ Some m
    → (m < least) ⊎ ((least ≤ m) × (most < m)) → (n : ℕ) → SpellsWithin least most word n → ⊥
out_of_range made least most m word z small read p e out n within =
    out_of least most m n out (is_u32 made z m (subst (λ (y : ℤ). OkIff made (FitsUnsignedBits 32 y) (unsigned_abs y)) (to_z-of_z w64 z read.0) p) e n (same_decimal least most word z small read n within)) within.enough within.few

-- ---- values

same_values : (x y : List (List ℕ)) → Some x ≡ Some y → x ≡ y
same_values x y e = cc

pub of_values : (given : Option (List (List ℕ))) (values : List (List ℕ)) (least connections : ℕ) (read : Option Serving) → given ≡ Some values → ReadsServers values least connections read → ReadsServersOf given least connections read
of_values given values least connections (Some serving) e r = (values, e, r.0, r.1)
of_values given values least connections None e r = λ others serving f named.
    let same : others ≡ values = same_values others values (sym f ∙ e) in
    r serving (subst (λ (v : List (List ℕ)). NamesServers least v serving) same named)

pub named_behind : (words : List (List ℕ)) (program name : List ℕ) (rest : List (List ℕ)) (read : Option Serving) → words ≡ program ∷ name ∷ rest → ReadsServingNamed name rest read → ReadsServing words read
named_behind words program name rest (Some serving) e r =
    record { program = program; rest = rest; spelled = e ∙ ap (λ (n : List ℕ). program ∷ n ∷ rest) r.0; named = r.1 }
named_behind words program name rest None e r = λ serving names.
    let both : program ∷ name ∷ rest ≡ names.program ∷ codes "serve" ∷ names.rest = sym e ∙ names.spelled in
    let same_name : name ≡ codes "serve" = cc both in
    let same_rest : names.rest ≡ rest = cc both in
    r serving same_name (subst (λ (l : List (List ℕ)). NamesBehind l serving) same_rest names.named)

pub if_named : {E : Type 0} (name : List ℕ) (words : List (List ℕ)) (read : Result (Option Serving) E) → name ≡ codes "serve" → IfOk read (λ it. ReadsServingBehind words it) → IfOk read (λ it. ReadsServingNamed name words it)
if_named name words (Ok (Some serving)) e r = (e, r)
if_named name words (Ok None) e r = λ serving same. r serving
if_named name words (Err fault) e r = tt

-- after the names of the program and the command
pub from_words : {E : Type 0} (words : List (Bor (List ℕ))) (read : Result (Option Serving) E) → 2 ≤ length words → IfOk read (λ it. ReadsServingNamed (get_or words 1 no_word).now (texts (take (length words - 2) (drop 2 words))) it)
    → IfOk read (λ it. ReadsServing (texts words) it)
from_words words (Err fault) some r = tt
from_words [] (Ok found) some r = absurd (omega (arith, some))
from_words (program ∷ []) (Ok found) some r = absurd (omega (arith, some))
from_words (program ∷ name ∷ words) (Ok found) some r =
    let rest : take (length (program ∷ name ∷ words) - 2) words ≡ words = take_all (length (program ∷ name ∷ words) - 2) words (omega arith) in
    named_behind (texts (program ∷ name ∷ words)) program.now name.now (texts words) found refl (subst (λ (l : List (Bor (List ℕ))). ReadsServingNamed name.now (texts l) found) rest r)
