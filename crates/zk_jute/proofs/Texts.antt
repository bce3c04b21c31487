-- Counts, texts, paths, contents and booleans: reading is the inverse of writing.
use Rattle.std.proofs.Common.{◌≡◌, ℕ, zero, suc, ℤ, pos, negsuc, ◌^◌, ◌<◌, Bool, true, false, cond, List, [], ◌∷◌, ◌++◌, length, Option, Some, None, Ok, Err, refl, sym, ap, subst, ◌∙◌, append_assoc, lit<}
use Rattle.std.specs.Prelude.{FitsSigned, is_none}
use Rattle.std.specs.Int.{w32, w64}
use Rattle.std.specs.Str.{IsUtf8, is_utf8}
use Rattle.std.proofs.lemmas.Bool.{false_from_ne_true}
use Rattle.std.proofs.lemmas.Str.{IsUtf8-from_is_utf8, is_utf8-from_IsUtf8}
use Rattle.zk_path.proofs.FaultLaw.{IsPath-from_fault, fault_of-IsPath}
use Rattle.zk_path.specs.Paths.{fault_of}
use Rattle.zk_path.specs.declared.fault.PathFault.{PathFault}
use Rattle.zk_jute.specs.declared.fault.JuteFault.TheVariants as faults
use Rattle.zk_records.specs.Records.{int, long, ustring, buffer, boolean, IsShort, IsText, IsPathText, IsContent}
use Rattle.zk_jute.specs.Reading.{number_at, bytes_at, not_negative, count_at, counted_at, text_at, path_at, content_of, content_at, boolean_at}
use Rattle.zk_jute.proofs.Numbers.{IsBytes, TakesFront, TakesFront-then, IsField, first_read, bind_ok, guard_ended, ok_is, at_ok, wide32, wide64, number_field, bytes_take, bytes_again}

-- ---- the test of a text's bytes

pub is_text : (bytes : List ℕ) → IsUtf8 bytes → is_utf8 bytes ≡ true
is_text bytes is = is_utf8-from_IsUtf8 bytes is

pub is_no_text : (bytes : List ℕ) → ¬ (IsUtf8 bytes) → is_utf8 bytes ≡ false
is_no_text bytes is_not = false_from_ne_true (is_utf8 bytes) (λ e. is_not (IsUtf8-from_is_utf8 bytes e))

-- ---- numbers

pub int_field : IsField (number_at w32) int (FitsSigned w32)
int_field = number_field w32 (2 ^ 32) wide32

pub long_field : IsField (number_at w64) long (FitsSigned w64)
long_field = number_field w64 (2 ^ 64) wide64

-- ---- counts

abbrev pub count : ℕ → List ℕ
count n = int (pos n)

abbrev pub IsCount : ℕ → Type 0
IsCount n = n < 2 ^ 31

not_negative_is : (z : ℤ) (rest : List ℕ) (x : ℕ × List ℕ) → not_negative z rest ≡ Ok x → (z ≡ pos x.0) × (rest ≡ x.1)
not_negative_is (pos n) rest x e = let same = ok_is (n, rest) x e in (ap (λ (p : ℕ × List ℕ). pos p.0) same, ap (λ (p : ℕ × List ℕ). p.1) same)
not_negative_is (negsuc n) rest x e = absurd cc

pub pos_fits : (n : ℕ) → n < 2 ^ 31 → FitsSigned w32 (pos n)
pos_fits n lt = record { sfits = lt }

count_takes : (bytes : List ℕ) (x : ℕ × List ℕ) → IsBytes bytes → count_at bytes ≡ Ok x → TakesFront bytes (count x.0) x.1 × IsCount x.0
unfolding count_at
count_takes bytes x fits e =
    let a = first_read (number_at w32) int (FitsSigned w32) int_field bytes (λ count. not_negative count.0 count.1) x fits e in
    let same = not_negative_is a.got.0 a.got.1 x a.goes in
    let kept : TakesFront bytes (int a.got.0) x.1 = subst (λ (rest : List ℕ). TakesFront bytes (int a.got.0) rest) same.1 a.took in
    let took : TakesFront bytes (count x.0) x.1 = subst (λ (z : ℤ). TakesFront bytes (int z) x.1) same.0 kept in
    let small : FitsSigned w32 (pos x.0) = subst (FitsSigned w32) same.0 a.fits in
    (took, small.sfits)

count_again : (n : ℕ) (rest : List ℕ) → IsCount n → count_at (count n ++ rest) ≡ Ok (n, rest)
unfolding count_at
count_again n rest fits = rw (int_field.again (pos n) rest (pos_fits n fits)) refl

pub count_field : IsField count_at count IsCount
count_field = record { takes = count_takes; again = count_again }

-- ---- texts

counted_takes : (bytes : List ℕ) (x : List ℕ × List ℕ) → IsBytes bytes → counted_at bytes ≡ Ok x → TakesFront bytes (ustring x.0) x.1 × IsShort x.0
unfolding counted_at
counted_takes bytes x fits e =
    let a = first_read count_at count IsCount count_field bytes (λ len. bytes_at len.0 len.1) x fits e in
    let t = bytes_take a.got.0 a.got.1 x a.took.rest_fits a.goes in
    let both = TakesFront-then bytes (count a.got.0) a.got.1 x.0 x.1 a.took t.0 in
    (subst (λ (k : ℕ). TakesFront bytes (count k ++ x.0) x.1) (sym t.1) both, subst (λ (k : ℕ). k < 2 ^ 31) (sym t.1) a.fits)

counted_again : (content rest : List ℕ) → IsShort content → counted_at (ustring content ++ rest) ≡ Ok (content, rest)
unfolding counted_at
counted_again content rest short =
    ap counted_at (append_assoc (count (length content)) content rest) ∙ rw (count_field.again (length content) (content ++ rest) short, bytes_again content rest) refl

pub counted_field : IsField counted_at ustring IsShort
counted_field = record { takes = counted_takes; again = counted_again }

text_takes : (bytes : List ℕ) (x : List ℕ × List ℕ) → IsBytes bytes → text_at bytes ≡ Ok x → TakesFront bytes (ustring x.0) x.1 × IsText x.0
unfolding text_at
text_takes bytes x fits e =
    let a = first_read _ _ _ counted_field bytes (λ text. cond (is_utf8 text.0) (Ok text) (Err faults.Text)) x fits e in
    let g = guard_ended (is_utf8 a.got.0) faults.Text a.got x a.goes in
    at_ok (λ (y : List ℕ × List ℕ). TakesFront bytes (ustring y.0) y.1 × IsText y.0) a.got x (ap Ok g.1) (a.took, record { utf8 = IsUtf8-from_is_utf8 a.got.0 g.0; short = a.fits })

text_again : (text rest : List ℕ) → IsText text → text_at (ustring text ++ rest) ≡ Ok (text, rest)
unfolding text_at
text_again text rest is = rw (counted_field.again text rest is.short, is_text text is.utf8) refl

pub text_field : IsField text_at ustring IsText
text_field = record { takes = text_takes; again = text_again }

-- ---- paths

none_from_is_none : (o : Option PathFault) → is_none o ≡ true → o ≡ None
none_from_is_none None e = refl
none_from_is_none (Some fault) e = absurd cc

path_takes : (bytes : List ℕ) (x : List ℕ × List ℕ) → IsBytes bytes → path_at bytes ≡ Ok x → TakesFront bytes (ustring x.0) x.1 × IsPathText x.0
unfolding path_at
path_takes bytes x fits e =
    let a = first_read text_at ustring IsText text_field bytes (λ text. cond (is_none (fault_of text.0)) (Ok text) (Err faults.Path)) x fits e in
    let g = guard_ended (is_none (fault_of a.got.0)) faults.Path a.got x a.goes in
    let grammar = IsPath-from_fault a.got.0 (none_from_is_none (fault_of a.got.0) g.0) in
    subst (λ (y : List ℕ × List ℕ). TakesFront bytes (ustring y.0) y.1 × IsPathText y.0) g.1 (a.took, record { grammar = grammar; text = a.fits })

path_again : (path rest : List ℕ) → IsPathText path → path_at (ustring path ++ rest) ≡ Ok (path, rest)
unfolding path_at
path_again path rest is =
    rw (text_field.again path rest is.text, fault_of-IsPath path is.grammar) refl

pub path_field : IsField path_at ustring IsPathText
path_field = record { takes = path_takes; again = path_again }

-- ---- contents

content_of_takes : (z : ℤ) (rest : List ℕ) (x : Option (List ℕ) × List ℕ) → FitsSigned w32 z → IsBytes rest → content_of z rest ≡ Ok x → (bytes : List ℕ) → TakesFront bytes (int z) rest → TakesFront bytes (buffer x.0) x.1 × IsContent x.0
content_of_takes (pos n) rest x small fits e = λ bytes took.
    let b = bind_ok {A = List ℕ × List ℕ} {B = Option (List ℕ) × List ℕ} (bytes_at n rest) (λ content. Ok (Some content.0, content.1)) x e in
    let t = bytes_take n rest b.0 fits b.1 in
    let both = TakesFront-then bytes (int (pos n)) rest b.0.0 b.0.1 took t.0 in
    let whole : TakesFront bytes (buffer (Some b.0.0)) b.0.1 = subst (λ (k : ℕ). TakesFront bytes (count k ++ b.0.0) b.0.1) (sym t.1) both in
    let made : Option (List ℕ) × List ℕ = (Some b.0.0, b.0.1) in
    subst (λ (y : Option (List ℕ) × List ℕ). TakesFront bytes (buffer y.0) y.1 × IsContent y.0) (ok_is made x b.2) (whole, subst (λ (k : ℕ). k < 2 ^ 31) (sym t.1) small.sfits)
content_of_takes (negsuc zero) rest x small fits e = λ bytes took.
    let made : Option (List ℕ) × List ℕ = (None, rest) in
    subst (λ (y : Option (List ℕ) × List ℕ). TakesFront bytes (buffer y.0) y.1 × IsContent y.0) (ok_is made x e) (took, tt)
content_of_takes (negsuc (suc n)) rest x small fits e = absurd cc

content_takes : (bytes : List ℕ) (x : Option (List ℕ) × List ℕ) → IsBytes bytes → content_at bytes ≡ Ok x → TakesFront bytes (buffer x.0) x.1 × IsContent x.0
unfolding content_at
content_takes bytes x fits e =
    let a = first_read (number_at w32) int (FitsSigned w32) int_field bytes (λ len. content_of len.0 len.1) x fits e in
    content_of_takes a.got.0 a.got.1 x a.fits a.took.rest_fits a.goes bytes a.took

content_again : (content : Option (List ℕ)) (rest : List ℕ) → IsContent content → content_at (buffer content ++ rest) ≡ Ok (content, rest)
unfolding content_at
content_again None rest is = rw (int_field.again (negsuc 0) rest (record { sfits = lit< tt })) refl
content_again (Some content) rest is =
    ap content_at (append_assoc (count (length content)) content rest) ∙ rw (int_field.again (pos (length content)) (content ++ rest) (pos_fits (length content) is), bytes_again content rest) refl

pub content_field : IsField content_at buffer IsContent
content_field = record { takes = content_takes; again = content_again }

-- ---- booleans

IsBytes-rest : (b : ℕ) (bytes : List ℕ) → IsBytes (b ∷ bytes) → IsBytes bytes
IsBytes-rest b bytes fits i = fits (suc i)

boolean_takes : (bytes : List ℕ) (x : Bool × List ℕ) → IsBytes bytes → boolean_at bytes ≡ Ok x → TakesFront bytes (boolean x.0) x.1 × Unit {0}
unfolding boolean_at
boolean_takes [] x fits e = absurd cc
boolean_takes (zero ∷ bytes) x fits e =
    let made : Bool × List ℕ = (false, bytes) in
    subst (λ (y : Bool × List ℕ). TakesFront (0 ∷ bytes) (boolean y.0) y.1 × Unit {0}) (ok_is made x e) (record { parts = refl; rest_fits = IsBytes-rest 0 bytes fits }, tt)
boolean_takes (suc zero ∷ bytes) x fits e =
    let made : Bool × List ℕ = (true, bytes) in
    subst (λ (y : Bool × List ℕ). TakesFront (1 ∷ bytes) (boolean y.0) y.1 × Unit {0}) (ok_is made x e) (record { parts = refl; rest_fits = IsBytes-rest 1 bytes fits }, tt)
boolean_takes (suc (suc b) ∷ bytes) x fits e = absurd cc

boolean_again : (flag : Bool) (rest : List ℕ) → Unit {0} → boolean_at (boolean flag ++ rest) ≡ Ok (flag, rest)
unfolding boolean_at
boolean_again true rest is = refl
boolean_again false rest is = refl

abbrev pub IsFlag : Bool → Type 0
IsFlag flag = Unit {0}

pub boolean_field : IsField boolean_at boolean IsFlag
boolean_field = record { takes = boolean_takes; again = boolean_again }
