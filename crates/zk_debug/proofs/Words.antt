-- Words of a line, and fields that are the rest of it.
use Rattle.std.proofs.Common.{◌≡◌, ◌≢◌, ℕ, suc, ◌+◌, ◌==◌, ℤ, pos, negsuc, ◌^◌, ◌<◌, ◌≤◌, nat_lt, eqb, Bool, true, false, cond, List, [], ◌∷◌, ◌++◌, length, Option, Some, None, Result, Ok, Err, refl, sym, ap, subst, ◌∙◌, arith}
use Rattle.std.proofs.lemmas.Bool.{eqb-true, ltb-true, lt-ltb}
use Rattle.std.proofs.lemmas.Bool.Decides.{nat_tests}
use Rattle.std.proofs.lemmas.List.{append-nil}
use Rattle.std.proofs.lemmas.Option.{cond_some}
use Rattle.std.proofs.lemmas.Slice.Eq.{bytes_eq-Decides}
use Rattle.std.specs.Prelude.{FitsSigned}
use Rattle.std.specs.Fmt.{decimal, signed_decimal}
use Rattle.std.specs.Int.{w64}
use Rattle.std.specs.List.{AllByRecursion, before_first, after_first, position_or_len}
use Rattle.std.specs.Str.{bytes_eq}
use Rattle.zk_listing.specs.Promises.{ReadsFound, ReadsOnly}
use Rattle.zk_listing.specs.Reading.{IsEnd, int_at}
use Rattle.zk_listing.specs.declared.list_fault.ListCause.{ListCause}
use Rattle.zk_listing.specs.declared.list_fault.ListCause.TheVariants as causes
use Rattle.zk_listing.proofs.Exact.{IsExact, bind_some, some_is}
use Rattle.zk_listing.proofs.AclLaws.{int_exact}
use Rattle.zk_listing.proofs.DecimalLaws.{narrow64}
use Rattle.zk_debug.specs.Reading.{Makes, fault_of, with_rest, whole, number_of, number_from, word_in, field_in, looked_up}

-- ---- fields

with_rest_is : {X : Type 0} (x y : X) (rest : List ℕ) → with_rest x rest ≡ Some y → (x ≡ y) × (rest ≡ [])
with_rest_is x y [] h = (some_is x y h, refl)
with_rest_is x y (b ∷ bs) h = absurd (let bad : None ≡ Some y = h in cc)

pub whole_takes : {X : Type 0} (spell : X → List ℕ) (Fits : X → Type 0) (at : List ℕ → Option (X × List ℕ)) → IsExact spell Fits at → (field : List ℕ) (x : X) → whole (at field) ≡ Some x → Fits x × (field ≡ spell x)
whole_takes spell Fits at f field x h =
    let p = bind_some (at field) (λ y. with_rest y.0 y.1) x h in
    let end = with_rest_is p.0.0 x p.0.1 p.2 in
    let found = f.takes field p.0.0 p.0.1 p.1 in
    (subst Fits end.0 found.0, found.1 ∙ ap (λ (rest : List ℕ). spell p.0.0 ++ rest) end.1 ∙ append-nil (spell p.0.0) ∙ ap spell end.0)

pub whole_again : {X : Type 0} (spell : X → List ℕ) (Fits : X → Type 0) (at : List ℕ → Option (X × List ℕ)) → IsExact spell Fits at → (x : X) → Fits x → whole (at (spell x)) ≡ Some x
whole_again spell Fits at f x fits =
    ap (λ (bytes : List ℕ). whole (at bytes)) (sym (append-nil (spell x))) ∙ ap whole (f.again x [] fits tt)

number_is : (z : ℤ) (n : ℕ) → number_of z ≡ Some n → (n < 2 ^ 32) × (z ≡ pos n)
number_is (pos m) n h =
    let p = cond_some (nat_lt m (2 ^ 32)) m n h in
    let low : m < 2 ^ 32 = ltb-true m (2 ^ 32) p.0 in
    (subst (λ (k : ℕ). k < 2 ^ 32) p.1 low, ap pos p.1)
number_is (negsuc m) n h = absurd (let bad : None ≡ Some n = h in cc)

pub number_takes : (field : List ℕ) (n : ℕ) → number_from field ≡ Some n → (n < 2 ^ 32) × (field ≡ decimal n)
unfolding number_from
number_takes field n h =
    let p = bind_some (whole (int_at w64 field)) number_of n h in
    let found = whole_takes signed_decimal (FitsSigned w64) (int_at w64) (int_exact w64 narrow64) field p.0 p.1 in
    let is = number_is p.0 n p.2 in
    (is.0, found.1 ∙ ap signed_decimal is.1)

pub number_again : (n : ℕ) → n < 2 ^ 32 → number_from (decimal n) ≡ Some n
unfolding number_from
number_again n low =
    let fits : FitsSigned w64 (pos n) = omega arith in
    let read : whole (int_at w64 (decimal n)) ≡ Some (pos n) = whole_again signed_decimal (FitsSigned w64) (int_at w64) (int_exact w64 narrow64) (pos n) fits in
    rw (read, lt-ltb n (2 ^ 32) low) refl

-- ---- words

first_or_later : {X : Type 0} (P : List ℕ → X → Type 0) (e : List ℕ × X) → P e.0 e.1 → (word : List ℕ) (x : X) (others : Option X) → (others ≡ Some x → P word x) → (b : Bool) → bytes_eq word e.0 ≡ b → cond b (Some e.1) others ≡ Some x → P word x
first_or_later P e first word x others later true same h =
    let named : P e.0 x = subst (P e.0) (some_is e.1 x h) first in
    subst (λ (w : List ℕ). P w x) (sym ((bytes_eq-Decides word e.0).0 same)) named
first_or_later P e first word x others later false other h = later h

-- a value that is looked up is in the table
pub looked_up_is : {X : Type 0} (P : List ℕ → X → Type 0) (table : List (List ℕ × X)) → AllByRecursion (λ e. P e.0 e.1) table → (word : List ℕ) (x : X) → looked_up word table ≡ Some x → P word x
looked_up_is P [] all word x h = absurd (let bad : None ≡ Some x = h in cc)
looked_up_is {X} P (e ∷ es) all word x h = first_or_later P e all.0 word x (looked_up word es) (λ later. looked_up_is P es all.1 word x later) (bytes_eq word e.0) refl h

-- a line is its word, or its word and its field with a space between
line_alone-cons : (b : ℕ) (bs : List ℕ) (v : Bool) → eqb b 32 ≡ v → (field_in bs ≡ None → bs ≡ word_in bs) → cond v (Some bs) (field_in bs) ≡ None → b ∷ bs ≡ cond v [] (b ∷ word_in bs)
line_alone-cons b bs true same rest h = absurd (let bad : Some bs ≡ None = h in cc)
line_alone-cons b bs false other rest h = ap (λ (xs : List ℕ). b ∷ xs) (rest h)

pub line_alone : (line : List ℕ) → field_in line ≡ None → line ≡ word_in line
unfolding word_in field_in
line_alone [] h = refl
line_alone (b ∷ bs) h = line_alone-cons b bs (eqb b 32) refl (line_alone bs) h

line_with-cons : (b : ℕ) (bs field : List ℕ) (v : Bool) → eqb b 32 ≡ v → (field_in bs ≡ Some field → bs ≡ word_in bs ++ 32 ∷ field) → cond v (Some bs) (field_in bs) ≡ Some field → b ∷ bs ≡ cond v [] (b ∷ word_in bs) ++ 32 ∷ field
line_with-cons b bs field true same rest h =
    let space : b ≡ 32 = grind (arith, nat_tests) in
    ap (λ (c : ℕ). c ∷ bs) space ∙ ap (λ (xs : List ℕ). 32 ∷ xs) (some_is bs field h)
line_with-cons b bs field false other rest h = ap (λ (xs : List ℕ). b ∷ xs) (rest h)

pub line_with : (line field : List ℕ) → field_in line ≡ Some field → line ≡ word_in line ++ 32 ∷ field
unfolding word_in field_in
line_with [] field h = absurd (let bad : None ≡ Some field = h in cc)
line_with (b ∷ bs) field h = line_with-cons b bs field (eqb b 32) refl (line_with bs field) h

-- ---- the same for a text that is split at its first space

abbrev is_space : ℕ → Bool
is_space b = b == 32

one_more : (n : ℕ) → 1 + n ≡ suc n
one_more n = omega arith

word_in-cons : (b : ℕ) (bs : List ℕ) (v : Bool) → is_space b ≡ v → word_in bs ≡ before_first is_space bs → word_in (b ∷ bs) ≡ before_first is_space (b ∷ bs)
unfolding word_in
word_in-cons b bs true e rest = rw e refl
word_in-cons b bs false e rest = rw (e, one_more (position_or_len is_space bs)) (ap (λ xs. b ∷ xs) rest)

word_in-before : (line : List ℕ) → word_in line ≡ before_first is_space line
unfolding word_in
word_in-before [] = refl
word_in-before (b ∷ bs) = word_in-cons b bs (is_space b) refl (word_in-before bs)

no_field-cons : (b : ℕ) (bs : List ℕ) (v : Bool) → is_space b ≡ v → (position_or_len is_space bs ≡ length bs → field_in bs ≡ None) → position_or_len is_space (b ∷ bs) ≡ length (b ∷ bs) → field_in (b ∷ bs) ≡ None
unfolding field_in
no_field-cons b bs true e rest h = let bad : 0 ≡ suc (length bs) = rw e at h in absurd (omega arith)
no_field-cons b bs false e rest h =
    let inner : 1 + position_or_len is_space bs ≡ suc (length bs) = rw e at h in
    rw e (rest (omega arith))

pub no_field : (line : List ℕ) → position_or_len is_space line ≡ length line → field_in line ≡ None
unfolding field_in
no_field [] h = refl
no_field (b ∷ bs) h = no_field-cons b bs (is_space b) refl (λ inner. no_field bs inner) h

field_in-cons : (b : ℕ) (bs : List ℕ) (v : Bool) → is_space b ≡ v → (position_or_len is_space bs < length bs → field_in bs ≡ Some (after_first is_space bs)) → position_or_len is_space (b ∷ bs) < length (b ∷ bs) → field_in (b ∷ bs) ≡ Some (after_first is_space (b ∷ bs))
unfolding field_in
field_in-cons b bs true e rest h = rw e refl
field_in-cons b bs false e rest h =
    let inner : 1 + position_or_len is_space bs < suc (length bs) = rw e at h in
    let next : (n : ℕ) → 1 + n + 1 ≡ suc (n + 1) = λ n. omega arith in
    rw (e, next (position_or_len is_space bs)) (rest (omega arith))

field_in-after : (line : List ℕ) → position_or_len is_space line < length line → field_in line ≡ Some (after_first is_space line)
unfolding field_in
field_in-after [] h = absurd (omega arith)
field_in-after (b ∷ bs) h = field_in-cons b bs (is_space b) refl (λ inner. field_in-after bs inner) h

pub word_alone : (line : List ℕ) → position_or_len is_space line ≡ length line → word_in line ≡ line
word_alone line h = sym (line_alone line (no_field line h))

-- a property of a word and a field, as one of the line
pub by_word_and_field : (P : List ℕ → Option (List ℕ) → Type 0) (line word field : List ℕ) → word ≡ before_first is_space line → field ≡ after_first is_space line → position_or_len is_space line < length line → P word (Some field) → P (word_in line) (field_in line)
by_word_and_field P line word field front back within h =
    let same_word : word ≡ word_in line = front ∙ sym (word_in-before line) in
    let same_field : Some field ≡ field_in line = ap (λ (xs : List ℕ). Some xs) back ∙ sym (field_in-after line within) in
    subst (P (word_in line)) same_field (subst (λ (w : List ℕ). P w (Some field)) same_word h)

pub by_word_alone : (P : List ℕ → Option (List ℕ) → Type 0) (line : List ℕ) → position_or_len is_space line ≡ length line → P line None → P (word_in line) (field_in line)
by_word_alone P line h p =
    subst (P (word_in line)) (sym (no_field line h)) (subst (λ (w : List ℕ). P w None) (sym (word_alone line h)) p)

-- ---- a reader's result, if nothing may follow the field

pub reads_whole : {X : Type 0} (spell : X → List ℕ) (Fits : X → Type 0) (at : List ℕ → Option (X × List ℕ)) → IsExact spell Fits at → (x : X) (field rest : List ℕ) → ReadsFound (λ (y : X). y) spell Fits (Ok x) field rest → rest ≡ [] → whole (at field) ≡ Some x
reads_whole spell Fits at f x field rest found end =
    let spelled : field ≡ spell x = found.1 ∙ ap (λ (r : List ℕ). spell x ++ r) end ∙ append-nil (spell x) in
    ap (λ (bytes : List ℕ). whole (at bytes)) spelled ∙ whole_again spell Fits at f x found.0

none_of : {X : Type 0} (o : Option X) → ((x : X) → o ≡ Some x → ⊥) → o ≡ None
none_of None h = refl
none_of (Some x) h = absurd (h x refl)

pub leaves_a_rest : {X : Type 0} (spell : X → List ℕ) (Fits : X → Type 0) (at : List ℕ → Option (X × List ℕ)) → IsExact spell Fits at → (x : X) (field rest : List ℕ) → ReadsOnly (λ (y : X). y) spell Fits (Ok x) field rest → rest ≢ [] → whole (at field) ≡ None
leaves_a_rest spell Fits at f x field rest only more = none_of (whole (at field)) (λ y h.
    let spelled = whole_takes spell Fits at f field y h in
    more (only y [] spelled.0 tt (spelled.1 ∙ sym (append-nil (spell y)))).1)

none_whole : {X : Type 0} (spell : X → List ℕ) (Fits : X → Type 0) (at : List ℕ → Option (X × List ℕ)) → IsExact spell Fits at → (field : List ℕ) → ((x : X) (rest : List ℕ) → Fits x → IsEnd rest → field ≢ spell x ++ rest) → whole (at field) ≡ None
none_whole spell Fits at f field only = none_of (whole (at field)) (λ y h.
    let spelled = whole_takes spell Fits at f field y h in
    only y [] spelled.0 tt (spelled.1 ∙ sym (append-nil (spell y))))

pub refuses_field : {X : Type 0} (spell : X → List ℕ) (Fits : X → Type 0) (at : List ℕ → Option (X × List ℕ)) → IsExact spell Fits at → (cause : ListCause) (field rest : List ℕ) → ReadsOnly (λ (y : X). y) spell Fits (Err cause) field rest → Makes (Err (fault_of cause)) (whole (at field))
refuses_field spell Fits at f causes.NoMemory field rest only = tt
refuses_field spell Fits at f causes.Fields field rest only = none_whole spell Fits at f field only
refuses_field spell Fits at f causes.Number field rest only = none_whole spell Fits at f field only
refuses_field spell Fits at f causes.Quote field rest only = none_whole spell Fits at f field only
refuses_field spell Fits at f causes.Hex field rest only = none_whole spell Fits at f field only
refuses_field spell Fits at f causes.Word field rest only = none_whole spell Fits at f field only
refuses_field spell Fits at f causes.Path field rest only = none_whole spell Fits at f field only
refuses_field spell Fits at f causes.NoNewline field rest only = none_whole spell Fits at f field only
