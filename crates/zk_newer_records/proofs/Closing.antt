-- Closed sessions, with or without a list of paths.
use Rattle.std.proofs.Common.{◌≡◌, ◌≢◌, ℕ, ◌≤◌, ◌+◌, ℤ, pos, negsuc, Bool, true, false, eqb, cond, List, [], ◌∷◌, ◌++◌, length, Option, Some, None, Result, Ok, refl, ap, ◌∙◌, append_assoc, arith, length-append}
use Rattle.std.specs.Int.{w32}
use Rattle.std.specs.Ordering.{int_eq}
use Rattle.std.specs.List.{flat_map}
use Rattle.std.proofs.lemmas.Bool.{eqb-true, ne_eqb, false_from_ne_true}
use Rattle.std.proofs.lemmas.Bool.Decides.{Decides-int_eq}
use Rattle.zk_table.specs.declared.txn.Op.TheVariants as ops
use Rattle.zk_jute.specs.declared.fault.JuteFault.{JuteFault}
use Rattle.zk_records.specs.Records.{int, long, ustring, vector, AreElements, IsPathText}
use Rattle.zk_jute.specs.Reading.{◌>>=◌, number_at, path_at, vector_at}
use Rattle.zk_jute.proofs.Numbers.{IsBytes, TakesFront, first_read, at_ok, made_takes, either, IsField}
use Rattle.zk_jute.proofs.Texts.{int_field, path_field}
use Rattle.zk_jute.proofs.Vectors.{vector_field}
use Rattle.zk_newer_records.specs.declared.newer_record.Encoding.TheVariants as forms
use Rattle.zk_newer_records.specs.declared.operations.EncodedOp.{EncodedOp}
use Rattle.zk_newer_records.specs.NewerRecords.{written_kind, written_body, IsEncoding, digest_bytes}
use Rattle.zk_newer_records.specs.Reading.{with_form, bare_close, listing_close_at, close_at}
use Rattle.zk_newer_records.proofs.Containers.{IsSum, two_fits}
use Rattle.zk_newer_records.proofs.KeptBodies.{path_filled}

-- a body of a type was read
pub record IsReadOp (bytes : List ℕ) (kind : ℤ) (x : EncodedOp × List ℕ) : Type 0 where
  pub took : TakesFront bytes (written_body x.0.op x.0.form) x.1
  pub typed : written_kind x.0.op x.0.form ≡ kind
  pub form : IsEncoding x.0.op x.0.form

abbrev pub is_op : List ℕ → ℤ → EncodedOp × List ℕ → Type 0
is_op bytes kind x = IsReadOp bytes kind x

pub paths_field : IsField (vector_at path_at) (vector ustring) (AreElements IsPathText)
paths_field = vector_field path_at ustring IsPathText path_field

-- ---- what is read

bare_takes : (bytes : List ℕ) (x : EncodedOp × List ℕ) → IsBytes bytes → bare_close bytes ≡ Ok x → IsReadOp bytes (negsuc 10) x
bare_takes bytes x fits e = at_ok (is_op bytes (negsuc 10)) (with_form forms.Own ops.CloseSession, bytes) x e (record { took = record { parts = refl; rest_fits = fits }; typed = refl; form = tt })

listing_takes : (bytes : List ℕ) (x : EncodedOp × List ℕ) → IsBytes bytes → listing_close_at bytes ≡ Ok x → IsReadOp bytes (negsuc 10) x
unfolding listing_close_at
listing_takes bytes x fits e =
    made_takes _ _ _ paths_field (λ listed. with_form (forms.ClosePaths listed) ops.CloseSession) bytes x (is_op bytes (negsuc 10)) fits e
    (λ listed rest took is. record { took = took; typed = refl; form = (tt, is) })

twelve_takes : (bytes : List ℕ) (x : EncodedOp × List ℕ) → IsBytes bytes → (number_at w32 bytes >>= λ version. cond (int_eq version.0 (pos 2)) (bare_close bytes) (listing_close_at bytes)) ≡ Ok x → IsReadOp bytes (negsuc 10) x
twelve_takes bytes x fits e =
    let a = first_read _ _ _ int_field bytes (λ version. cond (int_eq version.0 (pos 2)) (bare_close bytes) (listing_close_at bytes)) x fits e in
    let P : Type 0 = IsReadOp bytes (negsuc 10) x in
    either _ _ _ x P (λ _ h. bare_takes bytes x fits h) (λ h. listing_takes bytes x fits h) a.goes

pub close_takes : (bytes : List ℕ) (x : EncodedOp × List ℕ) → IsBytes bytes → close_at bytes ≡ Ok x → IsReadOp bytes (negsuc 10) x
unfolding close_at
close_takes bytes x fits e =
    let P : Type 0 = IsReadOp bytes (negsuc 10) x in
    either _ _ _ x P (λ _ h. bare_takes bytes x fits h)
    (either _ _ _ x P (λ _ h. twelve_takes bytes x fits h) (λ h. listing_takes bytes x fits h)) e

-- ---- reading what was written

pub bare_again : (digest : Option ℤ) → IsSum digest → close_at (digest_bytes digest) ≡ Ok (with_form forms.Own ops.CloseSession, digest_bytes digest)
unfolding close_at
bare_again None is = refl
bare_again (Some sum) is =
    let bytes = int (pos 2) ++ long sum in
    ap (λ (read : Result (ℤ × List ℕ) JuteFault). read >>= λ version. cond (int_eq version.0 (pos 2)) (bare_close bytes) (listing_close_at bytes)) (int_field.again (pos 2) (long sum) two_fits)

listing_again : (listed : List (List ℕ)) (rest : List ℕ) → AreElements IsPathText listed → listing_close_at (vector ustring listed ++ rest) ≡ Ok (with_form (forms.ClosePaths listed) ops.CloseSession, rest)
unfolding listing_close_at
listing_again listed rest are = rw (paths_field.again listed rest are) refl

pos_same : (m n : ℕ) → pos m ≡ pos n → m ≡ n
pos_same m n e = cc

-- two paths need ten bytes
two_long : (listed : List (List ℕ)) → AreElements IsPathText listed → length listed ≡ 2 → 14 ≤ length (vector ustring listed)
two_long [] are e = absurd cc
two_long (a ∷ []) are e = absurd cc
two_long (a ∷ b ∷ []) are e =
    let first : 1 ≤ length a = path_filled a are.each.0.grammar in
    let second : 1 ≤ length b = path_filled b are.each.1.0.grammar in
    let one : length (ustring a) ≡ 4 + length a = length-append (int (pos (length a))) a in
    let two : length (ustring b) ≡ 4 + length b = length-append (int (pos (length b))) b in
    let flat : flat_map ustring (a ∷ b ∷ []) ≡ ustring a ++ (ustring b ++ []) = refl in
    let sum : length (flat_map ustring (a ∷ b ∷ [])) ≡ length (ustring a) + (length (ustring b) + 0) = ap length flat ∙ length-append (ustring a) (ustring b ++ []) ∙ ap (λ (n : ℕ). length (ustring a) + n) (length-append (ustring b) []) in
    omega (arith, length-append (int (pos 2)) (flat_map ustring (a ∷ b ∷ [])), first, second, one, two, sum)
two_long (a ∷ b ∷ c ∷ more) are e = absurd cc

-- after a count other than 2, twelve bytes are not a digest
counted_close : (listed : List (List ℕ)) (rest : List ℕ) → AreElements IsPathText listed → (b : Bool) → eqb (length (vector ustring listed ++ rest)) 12 ≡ b
    → cond b (number_at w32 (vector ustring listed ++ rest) >>= λ version. cond (int_eq version.0 (pos 2)) (bare_close (vector ustring listed ++ rest)) (listing_close_at (vector ustring listed ++ rest))) (listing_close_at (vector ustring listed ++ rest)) ≡ listing_close_at (vector ustring listed ++ rest)
counted_close listed rest are true twelve =
    let bytes = vector ustring listed ++ rest in
    let n = length listed in
    let others : n ≢ 2 = λ e. absurd (omega (arith, two_long listed are e, length-append (vector ustring listed) rest, eqb-true _ _ twelve)) in
    let not_two : int_eq (pos n) (pos 2) ≡ false = false_from_ne_true (int_eq (pos n) (pos 2)) (λ t. others (pos_same n 2 ((Decides-int_eq (pos n) (pos 2)).0 t))) in
    let reads : number_at w32 bytes ≡ Ok (pos n, flat_map ustring listed ++ rest) = ap (number_at w32) (append_assoc (int (pos n)) (flat_map ustring listed) rest) ∙ int_field.again (pos n) (flat_map ustring listed ++ rest) (record { sfits = are.count }) in
    rw (reads, not_two) refl
counted_close listed rest are false twelve = refl

pub list_again : (listed : List (List ℕ)) (rest : List ℕ) → AreElements IsPathText listed → close_at (vector ustring listed ++ rest) ≡ Ok (with_form (forms.ClosePaths listed) ops.CloseSession, rest)
unfolding close_at
list_again listed rest are =
    let bytes = vector ustring listed ++ rest in
    let filled : eqb (length bytes) 0 ≡ false = ne_eqb _ _ (λ e. omega (arith, length-append (vector ustring listed) rest, length-append (int (pos (length listed))) (flat_map ustring listed), e)) in
    rw filled (counted_close listed rest are (eqb (length bytes) 12) refl ∙ listing_again listed rest are)
