-- The first frame of a stream.
use Rattle.std.proofs.Common.{◌≡◌, ℕ, ◌+◌, ◌^◌, ◌<◌, ◌≤◌, ◌⊎◌, inl, inr, Bool, true, false, cond, ltb, eqb, List, ◌++◌, length, take, drop, Option, Some, None, Result, Ok, Err, refl, sym, ap, subst, ◌∙◌, append_assoc, arith}
use Rattle.std.specs.Prelude.{nat_le, IfOk, IfSome, IfNone}
use Rattle.std.proofs.lemmas.Bool.{eq-eqb, eqb-true, ltb-false, le-ltb, ltb-true}
use Rattle.std.proofs.lemmas.Bool.Decides.{nat_tests}
use Rattle.std.proofs.lemmas.List.{take_at, drop_at, take-append-drop, take-append-le, drop-drop, length-append, length-take, length-drop}
use Rattle.std.proofs.Math.Seq.{take-add}
use Rattle.std.proofs.lemmas.Nat.{be_bytes_4, be_bytes_8, from_be_bytes-to_be_bytes_4, from_be_bytes-to_be_bytes_8}
use Rattle.zk_jute.proofs.Numbers.{IsBytes, IsBytes-between}
use Rattle.zk_records.specs.Checksum.{adler_of}
use Rattle.zab_frames.specs.declared.fault.FrameFault.{FrameFault}
use Rattle.zab_frames.specs.declared.fault.FrameFault.TheVariants as faults
use Rattle.zab_frames.specs.Frames.{checked, header, framed, number_in, stated_length, contents_by, first_in, IsFirst, seen}
use Rattle.zab_frames.specs.Messages.{word, long_word}
use Rattle.zab_frames.proofs.EntryLaws.{adler_small}

-- some of the bytes
IsBytes-cut : (m n : ℕ) (bytes : List ℕ) → IsBytes bytes → IsBytes (take n (drop m bytes))
IsBytes-cut m n bytes fits =
    IsBytes-between bytes (take m bytes) (take n (drop m bytes)) (drop n (drop m bytes))
    (sym (append_assoc (take m bytes) (take n (drop m bytes)) (drop n (drop m bytes)) ∙ ap (λ (l : List ℕ). take m bytes ++ l) (take-append-drop n (drop m bytes)) ∙ take-append-drop m bytes)) fits

-- equal lists whose first parts are equally long
pub split : (a b c d : List ℕ) → length a ≡ length b → a ++ c ≡ b ++ d → (a ≡ b) × (c ≡ d)
split a b c d long same = (
  sym (take_at a c (length b) long) ∙ ap (take (length b)) same ∙ take_at b d (length b) refl,
  sym (drop_at a c (length b) long) ∙ ap (drop (length b)) same ∙ drop_at b d (length b) refl,
)

-- ---- after a header

-- the contents that stand after their header, if they are whole
pub whole_by : (contents later : List ℕ) → length contents ≤ length later → take (length contents) later ≡ contents → contents_by (adler_of contents) (length contents) later ≡ Ok (Some contents)
whole_by contents later long same =
    let test : ltb (length later) (length contents) ≡ false = le-ltb _ _ long in
    let sum : eqb (adler_of contents) (adler_of contents) ≡ true = eq-eqb _ _ refl in
    rw (test, same, sum) refl

waits_by : (sum count : ℕ) (later : List ℕ) → length later < count → contents_by sum count later ≡ Ok None
waits_by sum count later short =
    let test : ltb (length later) count ≡ true = grind (arith, nat_tests) in
    rw test refl

-- what is read after a header
pub first_by_header : (count sum : ℕ) (later : List ℕ) → count < 2 ^ 63 → sum < 2 ^ 32 → first_in (header count sum ++ later) ≡ contents_by sum count later
unfolding first_in
first_by_header count sum later small sum_small =
    let bytes = header count sum ++ later in
    let long : ltb (length bytes) 16 ≡ false = le-ltb _ _ (omega (arith, length-append (header count sum) later)) in
    let stated : number_in bytes 12 ≡ adler_of (long_word count ++ word sum) = from_be_bytes-to_be_bytes_4 (adler_of (long_word count ++ word sum)) (adler_small (long_word count ++ word sum)) in
    let check : eqb (number_in bytes 12) (adler_of (take 12 bytes)) ≡ true = eq-eqb _ _ stated in
    let counted : stated_length bytes ≡ count = from_be_bytes-to_be_bytes_8 count (omega arith) in
    let summed : number_in bytes 8 ≡ sum = from_be_bytes-to_be_bytes_4 sum sum_small in
    let fits : nat_le (2 ^ 63) (stated_length bytes) ≡ false = grind (arith, nat_tests, counted, small) in
    rw (long, check, fits, counted, summed) refl

pub first_of_framed : (contents rest : List ℕ) → length contents < 2 ^ 63 → first_in (framed contents ++ rest) ≡ Ok (Some contents)
unfolding framed
first_of_framed contents rest small =
    ap first_in (append_assoc (header (length contents) (adler_of contents)) contents rest)
    ∙ first_by_header (length contents) (adler_of contents) (contents ++ rest) small (adler_small contents)
    ∙ whole_by contents (contents ++ rest) (omega (arith, length-append contents rest)) (take_at contents rest (length contents) refl)

some_are : (first second : List ℕ) → (let read : Result (Option (List ℕ)) FrameFault = Ok (Some first) in read ≡ Ok (Some second)) → first ≡ second
some_are first second e = cc

-- no frame is a prefix of another
pub framed_are_of_one : (first second rest others : List ℕ) → length first < 2 ^ 63 → length second < 2 ^ 63 → framed first ++ rest ≡ framed second ++ others → (first ≡ second) × (rest ≡ others)
framed_are_of_one first second rest others small other_small same =
    let contents : first ≡ second = some_are first second (sym (first_of_framed first rest small) ∙ ap first_in same ∙ first_of_framed second others other_small) in
    let parts = split (framed first) (framed second) rest others (ap (λ (l : List ℕ). length (framed l)) contents) same in
    (contents, parts.1)

-- ---- prefixes of a frame

-- what a prefix of a frame, or of more, is read as
pub first_of_prefix : (bytes more contents rest : List ℕ) → length contents < 2 ^ 63 → bytes ++ more ≡ framed contents ++ rest → (first_in bytes ≡ Ok None) ⊎ (first_in bytes ≡ Ok (Some contents))
unfolding first_in framed
first_of_prefix bytes more contents rest small same = by_length (ltb (length bytes) 16) refl
  where
    head : List ℕ
    head = header (length contents) (adler_of contents)

    after : 16 ≤ length bytes → (bytes ≡ head ++ drop 16 bytes) × (drop 16 bytes ++ more ≡ contents ++ rest)
    after long =
        let cut : take 16 bytes ++ (drop 16 bytes ++ more) ≡ head ++ (contents ++ rest) =
        sym (append_assoc (take 16 bytes) (drop 16 bytes) more) ∙ ap (λ (l : List ℕ). l ++ more) (take-append-drop 16 bytes) ∙ same ∙ append_assoc head contents rest in
        let parts = split (take 16 bytes) head (drop 16 bytes ++ more) (contents ++ rest) (omega (arith, length-take 16 bytes)) cut in
        (sym (take-append-drop 16 bytes) ∙ ap (λ (l : List ℕ). l ++ drop 16 bytes) parts.0, parts.1)

    read : 16 ≤ length bytes → first_in bytes ≡ contents_by (adler_of contents) (length contents) (drop 16 bytes)
    read long = ap first_in (after long).0 ∙ first_by_header (length contents) (adler_of contents) (drop 16 bytes) small (adler_small contents)

    by_rest : (b : Bool) → 16 ≤ length bytes → ltb (length (drop 16 bytes)) (length contents) ≡ b → (first_in bytes ≡ Ok None) ⊎ (first_in bytes ≡ Ok (Some contents))
    by_rest true long is = inl (read long ∙ waits_by (adler_of contents) (length contents) (drop 16 bytes) (ltb-true _ _ is))
    by_rest false long is =
        let within : length contents ≤ length (drop 16 bytes) = ltb-false _ _ is in
        let front : take (length contents) (drop 16 bytes) ≡ contents =
        sym (take-append-le (length contents) (drop 16 bytes) more within) ∙ ap (take (length contents)) (after long).1 ∙ take_at contents rest (length contents) refl in
        inr (read long ∙ whole_by contents (drop 16 bytes) within front)

    by_length : (b : Bool) → ltb (length bytes) 16 ≡ b → (first_in bytes ≡ Ok None) ⊎ (first_in bytes ≡ Ok (Some contents))
    by_length true is = inl (rw is refl)
    by_length false is = by_rest (ltb (length (drop 16 bytes)) (length contents)) (ltb-false _ _ is) refl

-- ---- what is read as a frame is one

abbrev pub Read : Type 0
Read = Result (Option (List ℕ)) FrameFault

-- a test that another result rules out
passed : (b : Bool) (here there result : Read) → cond b here there ≡ result → (here ≡ result → ⊥) → (b ≡ false) × (there ≡ result)
passed true here there result e out = absurd (out e)
passed false here there result e out = (refl, e)

held : (b : Bool) (here there result : Read) → cond b here there ≡ result → (there ≡ result → ⊥) → (b ≡ true) × (here ≡ result)
held true here there result e out = (refl, e)
held false here there result e out = absurd (out e)

pub first_found : (bytes contents : List ℕ) → IsBytes bytes → first_in bytes ≡ Ok (Some contents) → IsFirst bytes contents
unfolding first_in framed
first_found bytes contents fits e =
    let result : Read = Ok (Some contents) in
    let count = stated_length bytes in
    let later = drop 16 bytes in
    let one = passed (ltb (length bytes) 16) (Ok None) _ result e (λ h. absurd cc) in
    let two = held (eqb (number_in bytes 12) (adler_of (take 12 bytes))) _ (Err faults.Header) result one.1 (λ h. absurd cc) in
    let three = passed (nat_le (2 ^ 63) count) (Err faults.Length) _ result two.1 (λ h. absurd cc) in
    let four = passed (ltb (length later) count) (Ok None) _ result three.1 (λ h. absurd cc) in
    let five = held (eqb (number_in bytes 8) (adler_of (take count later))) (Ok (Some (take count later))) (Err faults.Checksum) result four.1 (λ h. absurd cc) in
    let same : take count later ≡ contents = some_are (take count later) contents five.1 in
    let long : 16 ≤ length bytes = ltb-false _ _ one.0 in
    let enough : count ≤ length later = ltb-false _ _ four.0 in
    let short : count < 2 ^ 63 = grind (arith, nat_tests, three.0) in
    let counted : length contents ≡ count = omega (arith, ap length same, length-take count later) in
    let checked_sum : number_in bytes 12 ≡ adler_of (take 12 bytes) = eqb-true _ _ two.0 in
    let sum : number_in bytes 8 ≡ adler_of contents = eqb-true _ _ five.0 ∙ ap adler_of same in
    let first : long_word count ≡ take 8 bytes = be_bytes_8 (take 8 bytes) count (omega (arith, length-take 8 bytes)) (IsBytes-cut 0 8 bytes fits) refl in
    let second : word (number_in bytes 8) ≡ take 4 (drop 8 bytes) = be_bytes_4 (take 4 (drop 8 bytes)) (number_in bytes 8) (omega (arith, length-take 4 (drop 8 bytes), length-drop 8 bytes)) (IsBytes-cut 8 4 bytes fits) refl in
    let third : word (number_in bytes 12) ≡ take 4 (drop 12 bytes) = be_bytes_4 (take 4 (drop 12 bytes)) (number_in bytes 12) (omega (arith, length-take 4 (drop 12 bytes), length-drop 12 bytes)) (IsBytes-cut 12 4 bytes fits) refl in
    let twelve : long_word count ++ word (number_in bytes 8) ≡ take 12 bytes = ap (λ (l : List ℕ). l ++ word (number_in bytes 8)) first ∙ ap (λ (l : List ℕ). take 8 bytes ++ l) second ∙ sym (take-add 8 4 bytes) in
    let sixteen : header count (number_in bytes 8) ≡ take 16 bytes =
    ap checked twelve ∙ ap (λ (n : ℕ). take 12 bytes ++ word n) (sym checked_sum) ∙ ap (λ (l : List ℕ). take 12 bytes ++ l) third ∙ sym (take-add 12 4 bytes) in
    let head : header (length contents) (adler_of contents) ≡ take 16 bytes = ap (λ (n : ℕ). header n (adler_of contents)) counted ∙ ap (header count) (sym sum) ∙ sixteen in
    let rest : contents ++ drop (16 + length contents) bytes ≡ later =
    ap (λ (l : List ℕ). l ++ drop (16 + length contents) bytes) (sym same)
    ∙ ap (λ (n : ℕ). take count later ++ drop (16 + n) bytes) counted ∙ ap (λ (l : List ℕ). take count later ++ l) (sym (drop-drop count 16 bytes)) ∙ take-append-drop count later in
    record {
      whole = sym (append_assoc (header (length contents) (adler_of contents)) contents (drop (16 + length contents) bytes)
          ∙ ap (λ (l : List ℕ). l ++ (contents ++ drop (16 + length contents) bytes)) head ∙ ap (λ (l : List ℕ). take 16 bytes ++ l) rest ∙ take-append-drop 16 bytes);
      short = subst (λ (n : ℕ). n < 2 ^ 63) (sym counted) short;
      long = omega (arith, counted, enough, length-drop 16 bytes, long);
    }

-- the same of the reader's result
pub is_first : {X : Type 0} (view : X → List ℕ) (bytes : List ℕ) (result : Result (Option X) FrameFault) → IsBytes bytes → seen view result ≡ first_in bytes → IfOk result (λ found. IfSome found (λ contents. IsFirst bytes (view contents)))
is_first view bytes (Ok None) fits e = tt
is_first view bytes (Ok (Some contents)) fits e = first_found bytes (view contents) fits (sym e)
is_first view bytes (Err fault) fits e = tt

pub length-framed : (contents : List ℕ) → length (framed contents) ≡ 16 + length contents
unfolding framed
length-framed contents = omega (arith, length-append (header (length contents) (adler_of contents)) contents)

neither : (b : Bool) (here there : Read) → (here ≡ Err faults.Contents → ⊥) → (there ≡ Err faults.Contents → ⊥) → cond b here there ≡ Err faults.Contents → ⊥
neither true here there one other e = one e
neither false here there one other e = other e

abbrev found_read : Option (List ℕ) → Read
found_read found = Ok found

abbrev failed_read : FrameFault → Read
failed_read fault = Err fault

is_found : (found : Option (List ℕ)) → found_read found ≡ failed_read faults.Contents → ⊥
is_found found e = absurd cc

is_header : failed_read faults.Header ≡ failed_read faults.Contents → ⊥
is_header e = absurd cc

is_length : failed_read faults.Length ≡ failed_read faults.Contents → ⊥
is_length e = absurd cc

is_checksum : failed_read faults.Checksum ≡ failed_read faults.Contents → ⊥
is_checksum e = absurd cc

-- contents are not looked at here
pub no_contents : (bytes : List ℕ) → first_in bytes ≡ Err faults.Contents → ⊥
unfolding first_in
no_contents bytes e =
    let count = stated_length bytes in
    let later = drop 16 bytes in
    neither (ltb (length bytes) 16) _ _ (is_found None)
    (neither (eqb (number_in bytes 12) (adler_of (take 12 bytes))) _ _
    (neither (nat_le (2 ^ 63) count) _ _ is_length
    (neither (ltb (length later) count) _ _ (is_found None)
    (neither (eqb (number_in bytes 8) (adler_of (take count later))) _ _ (is_found (Some (take count later))) is_checksum)))
    is_header) e

pub seen_some : {X : Type 0} (view : X → List ℕ) (found : Option X) (x : X) (read : Read) → found ≡ Some x → seen view (Ok found) ≡ read → read ≡ Ok (Some (view x))
seen_some {X} view found x read is e = sym e ∙ ap (λ (o : Option X). seen view (Ok o)) is

pub if_none : {X : Type 0} (o : Option X) (P : Type 0) → o ≡ None → IfNone o P → P
if_none None P e holds = holds
if_none (Some x) P e holds = absurd cc
