-- Fields that may be null, and access control lists: reading is the inverse of writing.
use Rattle.std.proofs.Common.{◌≡◌, ℕ, ℤ, pos, negsuc, Bool, true, false, cond, List, ◌++◌, length, Option, Some, None, Result, Ok, refl, sym, ap, subst, ◌∙◌, append_assoc, lit<}
use Rattle.std.specs.Int.{w32}
use Rattle.std.specs.List.{flat_map}
use Rattle.std.specs.Ordering.{int_eq}
use Rattle.std.proofs.lemmas.Bool.Decides.{Decides-int_eq}
use Rattle.zk_frames.specs.declared.acl_records.AclRecord.{AclRecord}
use Rattle.zk_jute.specs.declared.fault.JuteFault.{JuteFault}
use Rattle.zk_jute.specs.Reading.{◌>>=◌, number_at, text_at, vector_at}
use Rattle.zk_jute.proofs.Numbers.{IsBytes, TakesFront, TakesFront-then, IsField, first_read, bind_ok, at_ok, made_takes}
use Rattle.zk_jute.proofs.Texts.{int_field, text_field, pos_fits, count}
use Rattle.zk_jute.proofs.Vectors.{vector_field}
use Rattle.zk_records.specs.Records.{int, ustring, vector, IsText, AreElements}
use Rattle.zk_frames.specs.Requests.{nullable, acl_record, acl_records, AreTexts, IsNullOr, IsAclRecord, AreAclRecords}
use Rattle.zk_frames.specs.Reading.{null_at, unless_null, null_or, acl_record_at, acl_records_at}

pub regroup2 : (a b r : List ℕ) → (a ++ b) ++ r ≡ a ++ (b ++ r)
regroup2 a b r = append_assoc a b r

pub regroup3 : (a b c r : List ℕ) → ((a ++ b) ++ c) ++ r ≡ a ++ (b ++ (c ++ r))
regroup3 a b c r = simp append_assoc

pub regroup4 : (a b c d r : List ℕ) → (((a ++ b) ++ c) ++ d) ++ r ≡ a ++ (b ++ (c ++ (d ++ r)))
regroup4 a b c d r = simp append_assoc

pub texts_field : IsField (vector_at text_at) (vector ustring) AreTexts
texts_field = vector_field text_at ustring IsText text_field

-- ---- fields that may be null

-- null was read, or nothing was
abbrev NullRead : List ℕ → Bool × List ℕ → Type 0
NullRead bytes (true, rest) = TakesFront bytes (int (negsuc 0)) rest
NullRead bytes (false, rest) = bytes ≡ rest

abbrev null_or_not : Bool → List ℕ → List ℕ → Result (Bool × List ℕ) JuteFault
null_or_not b rest bytes = cond b (Ok (true, rest)) (Ok (false, bytes))

null_by : (bytes : List ℕ) (len : ℤ × List ℕ) (b : Bool) (x : Bool × List ℕ) → int_eq len.0 (negsuc 0) ≡ b → TakesFront bytes (int len.0) len.1 → null_or_not b len.1 bytes ≡ Ok x → NullRead bytes x
null_by bytes len true x is took e =
    at_ok (NullRead bytes) (true, len.1) x e (subst (λ (z : ℤ). TakesFront bytes (int z) len.1) ((Decides-int_eq len.0 (negsuc 0)).0 is) took)
null_by bytes len false x is took e = at_ok (NullRead bytes) (false, bytes) x e refl

null_takes : (bytes : List ℕ) (x : Bool × List ℕ) → IsBytes bytes → null_at bytes ≡ Ok x → NullRead bytes x
unfolding null_at
null_takes bytes x fits e =
    let a = first_read _ _ _ int_field bytes (λ len. null_or_not (int_eq len.0 (negsuc 0)) len.1 bytes) x fits e in
    null_by bytes a.got (int_eq a.got.0 (negsuc 0)) x refl a.took a.goes

abbrev Reader : Type 0 → Type 0
Reader A = List ℕ → Result (A × List ℕ) JuteFault

-- a field whose bytes start with a length that is not negative
pub record IsCounted {A : Type 0} (read : Reader A) (spell : A → List ℕ) (Fits : A → Type 0) : Type 0 where
  pub field : IsField read spell Fits
  pub starts : (x : A) (rest : List ℕ) → Fits x → (n : ℕ) × (tail : List ℕ) × (number_at w32 (spell x ++ rest) ≡ Ok (pos n, tail))

after_null : {A : Type 0} (read : Reader A) (spell : A → List ℕ) (Fits : A → Type 0) → IsField read spell Fits → (bytes : List ℕ) (null : Bool × List ℕ) (x : Option A × List ℕ) → IsBytes bytes → NullRead bytes null → unless_null read null.0 null.1 ≡ Ok x → TakesFront bytes (nullable spell x.0) x.1 × IsNullOr Fits x.0
after_null {A} read spell Fits field bytes (true, rest) x fits took e =
    at_ok (λ (y : Option A × List ℕ). TakesFront bytes (nullable spell y.0) y.1 × IsNullOr Fits y.0) (None, rest) x e (took, tt)
after_null {A} read spell Fits field bytes (false, rest) x fits same e =
    subst (λ (bs : List ℕ). TakesFront bs (nullable spell x.0) x.1 × IsNullOr Fits x.0) (sym same)
    (made_takes read spell Fits field Some rest x (λ (y : Option A × List ℕ). TakesFront rest (nullable spell y.0) y.1 × IsNullOr Fits y.0) (subst IsBytes same fits) e (λ y after took is. (took, is)))

or_takes : {A : Type 0} (read : Reader A) (spell : A → List ℕ) (Fits : A → Type 0) → IsField read spell Fits → (bytes : List ℕ) (x : Option A × List ℕ) → IsBytes bytes → null_or read bytes ≡ Ok x → TakesFront bytes (nullable spell x.0) x.1 × IsNullOr Fits x.0
unfolding null_or
or_takes {A} read spell Fits field bytes x fits e =
    let b = bind_ok {A = Bool × List ℕ} {B = Option A × List ℕ} (null_at bytes) (λ null. unless_null read null.0 null.1) x e in
    after_null read spell Fits field bytes b.0 x fits (null_takes bytes b.0 fits b.1) b.2

null_again : (rest : List ℕ) → null_at (int (negsuc 0) ++ rest) ≡ Ok (true, rest)
unfolding null_at
null_again rest = rw (int_field.again (negsuc 0) rest (record { sfits = lit< tt })) refl

not_null : (bytes : List ℕ) (n : ℕ) (tail : List ℕ) → number_at w32 bytes ≡ Ok (pos n, tail) → null_at bytes ≡ Ok (false, bytes)
unfolding null_at
not_null bytes n tail starts = rw starts refl

or_again : {A : Type 0} (read : Reader A) (spell : A → List ℕ) (Fits : A → Type 0) → IsCounted read spell Fits → (x : Option A) (rest : List ℕ) → IsNullOr Fits x → null_or read (nullable spell x ++ rest) ≡ Ok (x, rest)
unfolding null_or
or_again read spell Fits counted None rest is = rw (null_again rest) refl
or_again read spell Fits counted (Some x) rest is =
    let s = counted.starts x rest is in
    rw (not_null (spell x ++ rest) s.0 s.1 s.2, counted.field.again x rest is) refl

null_field : {A : Type 0} (read : Reader A) (spell : A → List ℕ) (Fits : A → Type 0) → IsCounted read spell Fits → IsField (null_or read) (nullable spell) (IsNullOr Fits)
null_field read spell Fits counted = record {
  takes = λ bytes x fits e. or_takes read spell Fits counted.field bytes x fits e;
  again = λ x rest is. or_again read spell Fits counted x rest is;
}

-- ---- access control lists

text_starts : (text rest : List ℕ) → IsText text → (n : ℕ) × (tail : List ℕ) × (number_at w32 (ustring text ++ rest) ≡ Ok (pos n, tail))
text_starts text rest is =
    (length text, text ++ rest, ap (number_at w32) (append_assoc (count (length text)) text rest) ∙ int_field.again (pos (length text)) (text ++ rest) (pos_fits (length text) is.short))

null_text_field : IsField (null_or text_at) (nullable ustring) (IsNullOr IsText)
null_text_field = null_field text_at ustring IsText (record { field = text_field; starts = text_starts })

acl_record_takes : (bytes : List ℕ) (x : AclRecord × List ℕ) → IsBytes bytes → acl_record_at bytes ≡ Ok x → TakesFront bytes (acl_record x.0) x.1 × IsAclRecord x.0
unfolding acl_record_at
acl_record_takes bytes x fits e =
    let a = first_read _ _ _ int_field bytes (λ perms. null_or text_at perms.1 >>= λ scheme. null_or text_at scheme.1 >>= λ id. Ok (record { perms = perms.0; scheme = scheme.0; id = id.0 }, id.1)) x fits e in
    let b = first_read _ _ _ null_text_field a.got.1 (λ scheme. null_or text_at scheme.1 >>= λ id. Ok (record { perms = a.got.0; scheme = scheme.0; id = id.0 }, id.1)) x a.took.rest_fits a.goes in
    let c = first_read _ _ _ null_text_field b.got.1 (λ id. Ok (record { perms = a.got.0; scheme = b.got.0; id = id.0 }, id.1)) x b.took.rest_fits b.goes in
    let ab = TakesFront-then bytes (int a.got.0) a.got.1 (nullable ustring b.got.0) b.got.1 a.took b.took in
    let all = TakesFront-then bytes (int a.got.0 ++ nullable ustring b.got.0) b.got.1 (nullable ustring c.got.0) c.got.1 ab c.took in
    let made : AclRecord × List ℕ = (record { perms = a.got.0; scheme = b.got.0; id = c.got.0 }, c.got.1) in
    at_ok (λ (y : AclRecord × List ℕ). TakesFront bytes (acl_record y.0) y.1 × IsAclRecord y.0) made x c.goes (all, record { perms = a.fits; scheme = b.fits; id = c.fits })

acl_record_again : (r : AclRecord) (rest : List ℕ) → IsAclRecord r → acl_record_at (acl_record r ++ rest) ≡ Ok (r, rest)
unfolding acl_record_at
acl_record_again r rest is =
    ap acl_record_at (regroup3 (int r.perms) (nullable ustring r.scheme) (nullable ustring r.id) rest)
    ∙ rw (
      int_field.again r.perms (nullable ustring r.scheme ++ (nullable ustring r.id ++ rest)) is.perms,
      null_text_field.again r.scheme (nullable ustring r.id ++ rest) is.scheme,
      null_text_field.again r.id rest is.id,
    ) refl

pub acl_record_field : IsField acl_record_at acl_record IsAclRecord
acl_record_field = record { takes = acl_record_takes; again = acl_record_again }

vector_starts : (xs : List AclRecord) (rest : List ℕ) → AreElements IsAclRecord xs → (n : ℕ) × (tail : List ℕ) × (number_at w32 (vector acl_record xs ++ rest) ≡ Ok (pos n, tail))
vector_starts xs rest are =
    (length xs, flat_map acl_record xs ++ rest, ap (number_at w32) (append_assoc (count (length xs)) (flat_map acl_record xs) rest) ∙ int_field.again (pos (length xs)) (flat_map acl_record xs ++ rest) (pos_fits (length xs) are.count))

pub acl_records_field : IsField acl_records_at acl_records AreAclRecords
acl_records_field = null_field (vector_at acl_record_at) (vector acl_record) (AreElements IsAclRecord) (record { field = vector_field acl_record_at acl_record IsAclRecord acl_record_field; starts = vector_starts })
