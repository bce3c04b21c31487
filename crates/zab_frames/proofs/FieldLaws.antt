-- Fields: reading is the inverse of writing.
use Rattle.std.proofs.Common.{◌≡◌, ℕ, ℤ, ◌^◌, ◌<◌, ◌≤◌, Bool, true, false, cond, ltb, List, [], ◌++◌, length, take, drop, Option, Some, None, Ok, Err, refl, sym, ap, subst, ◌∙◌, append_assoc, append-nil, arith}
use Rattle.std.specs.Prelude.{FitsSigned}
use Rattle.std.specs.Int.{Width, w32, w64, byte_len, from_be_bytes, to_be_bytes}
use Rattle.std.specs.List.{flat_map}
use Rattle.std.specs.Str.{is_utf8}
use Rattle.std.proofs.lemmas.Bool.{ltb-false, le-ltb}
use Rattle.std.proofs.lemmas.List.{take_at, drop_at, take-append-drop, length-append, length-take}
use Rattle.std.proofs.lemmas.Str.{IsUtf8-from_is_utf8}
use Rattle.zk_acl.specs.declared.acl.Acl.{Acl}
use Rattle.zk_acl.specs.declared.acl.Id.{Id}
use Rattle.zk_jute.specs.declared.fault.JuteFault.TheVariants as faults
use Rattle.zk_jute.specs.Reading.{◌>>=◌, number_at, bytes_at, many_at, made_of}
use Rattle.zk_jute.proofs.Numbers.{IsBytes, IsBytes-between, TakesFront, TakesFront-then, IsField, first_read, bind_ok, guard_ok, guard_ended, at_ok, made_takes, IsWide, wide32, wide64, bytes_take, bytes_again}
use Rattle.zk_jute.proofs.Texts.{int_field, boolean_field, is_text}
use Rattle.zk_jute.proofs.Vectors.{many_take, many_again}
use Rattle.zk_records.specs.Records.{int, boolean}
use Rattle.zab_frames.specs.Messages.{word, long_word, counted, optional, counted_list, identity, acl_entry}
use Rattle.zab_frames.specs.Ranges.{IsWord, IsLongWord, IsCounted, IsText, IsOptional, AreCounted, IsIdentity, IsAcl}
use Rattle.zab_frames.specs.Reading.{Reader, ◌&◌, natural_at, counted_at, text_at, optional_by, optional_at, list_at, id_from, identity_at, acl_from, acl_at, tagged_at}

-- ---- one field after another

pair_takes : {A B : Type 0} (one : Reader A) (spell : A → List ℕ) (Fits : A → Type 0) (other : Reader B) (write : B → List ℕ) (Suits : B → Type 0) → IsField one spell Fits → IsField other write Suits
    → (bytes : List ℕ) (x : (A × B) × List ℕ) → IsBytes bytes → (one & other) bytes ≡ Ok x → TakesFront bytes (spell x.0.0 ++ write x.0.1) x.1 × (Fits x.0.0 × Suits x.0.1)
pair_takes {A} {B} one spell Fits other write Suits first second bytes x fits e =
    let a = first_read one spell Fits first bytes (λ a. other a.1 >>= λ b. Ok ((a.0, b.0), b.1)) x fits e in
    let b = first_read other write Suits second a.got.1 (λ b. Ok ((a.got.0, b.0), b.1)) x a.took.rest_fits a.goes in
    let both = TakesFront-then bytes (spell a.got.0) a.got.1 (write b.got.0) b.got.1 a.took b.took in
    let made : (A × B) × List ℕ = ((a.got.0, b.got.0), b.got.1) in
    at_ok (λ (y : (A × B) × List ℕ). TakesFront bytes (spell y.0.0 ++ write y.0.1) y.1 × (Fits y.0.0 × Suits y.0.1)) made x b.goes (both, (a.fits, b.fits))

pair_again : {A B : Type 0} (one : Reader A) (spell : A → List ℕ) (Fits : A → Type 0) (other : Reader B) (write : B → List ℕ) (Suits : B → Type 0) → IsField one spell Fits → IsField other write Suits
    → (p : A × B) (rest : List ℕ) → Fits p.0 × Suits p.1 → (one & other) ((spell p.0 ++ write p.1) ++ rest) ≡ Ok (p, rest)
pair_again one spell Fits other write Suits first second p rest is =
    ap (one & other) (append_assoc (spell p.0) (write p.1) rest) ∙ rw (first.again p.0 (write p.1 ++ rest) is.0, second.again p.1 rest is.1) refl

pub pair_field : {A B : Type 0} {one : Reader A} {spell : A → List ℕ} {Fits : A → Type 0} {other : Reader B} {write : B → List ℕ} {Suits : B → Type 0} → IsField one spell Fits → IsField other write Suits
    → IsField (one & other) (λ p. spell p.0 ++ write p.1) (λ p. Fits p.0 × Suits p.1)
pair_field {one = one} {spell = spell} {Fits = Fits} {other = other} {write = write} {Suits = Suits} first second = record {
  takes = λ bytes x fits e. pair_takes one spell Fits other write Suits first second bytes x fits e;
  again = λ p rest is. pair_again one spell Fits other write Suits first second p rest is;
}

-- a value that is the same as its fields
pub made_field : {A B : Type 0} (read : Reader A) (spell : A → List ℕ) (Fits : A → Type 0) (make : A → B) (fields : B → A) → IsField read spell Fits → ((b : B) → make (fields b) ≡ b) → ((a : A) → fields (make a) ≡ a)
    → IsField (λ bytes. made_of make (read bytes)) (λ b. spell (fields b)) (λ b. Fits (fields b))
made_field {A} {B} read spell Fits make fields field here there = record {
  takes = λ bytes x fits e.
      made_takes read spell Fits field make bytes x (λ (y : B × List ℕ). TakesFront bytes (spell (fields y.0)) y.1 × Fits (fields y.0)) fits e
      (λ a rest took is. subst (λ (z : A). TakesFront bytes (spell z) rest × Fits z) (sym (there a)) (took, is));
  again = λ b rest is. ap (made_of make) (field.again (fields b) rest is) ∙ ap (λ (z : B). Ok (z, rest)) (here b);
}

-- ---- tagged values

-- a value of a kind was read
pub record TagRead {A : Type 0} (kind_of : A → ℤ) (spell : A → List ℕ) (Fits : A → Type 0) (bytes : List ℕ) (kind : ℤ) (x : A × List ℕ) : Type 0 where
  pub took : TakesFront bytes (spell x.0) x.1
  pub typed : kind_of x.0 ≡ kind
  pub fits : Fits x.0

pub tagged_field : {A : Type 0} (read : ℤ → Reader A) (kind_of : A → ℤ) (spell : A → List ℕ) (Fits : A → Type 0)
    → ((kind : ℤ) (bytes : List ℕ) (x : A × List ℕ) → IsBytes bytes → read kind bytes ≡ Ok x → TagRead kind_of spell Fits bytes kind x)
    → ((a : A) (rest : List ℕ) → Fits a → read (kind_of a) (spell a ++ rest) ≡ Ok (a, rest)) → ((a : A) → FitsSigned w32 (kind_of a))
    → IsField (tagged_at read) (λ a. int (kind_of a) ++ spell a) Fits
tagged_field {A} read kind_of spell Fits takes again small = record {
  takes = λ bytes x fits e.
      let a = first_read (number_at w32) int (FitsSigned w32) int_field bytes (λ kind. read kind.0 kind.1) x fits e in
      let b = takes a.got.0 a.got.1 x a.took.rest_fits a.goes in
      let both = TakesFront-then bytes (int a.got.0) a.got.1 (spell x.0) x.1 a.took b.took in
      (subst (λ (kind : ℤ). TakesFront bytes (int kind ++ spell x.0) x.1) (sym b.typed) both, b.fits);
  again = λ a rest is.
      ap (tagged_at read) (append_assoc (int (kind_of a)) (spell a) rest) ∙ rw (int_field.again (kind_of a) (spell a ++ rest) (small a)) (again a rest is);
}

-- ---- numbers

IsBytes-take : (n : ℕ) (bytes : List ℕ) → IsBytes bytes → IsBytes (take n bytes)
IsBytes-take n bytes fits = IsBytes-between bytes [] (take n bytes) (drop n bytes) (sym (take-append-drop n bytes)) fits

IsBytes-drop : (n : ℕ) (bytes : List ℕ) → IsBytes bytes → IsBytes (drop n bytes)
IsBytes-drop n bytes fits = IsBytes-between bytes (take n bytes) (drop n bytes) [] (sym (append-nil (take n bytes ++ drop n bytes) ∙ take-append-drop n bytes)) fits

natural_takes : (w : Width) (limit : ℕ) (wide : IsWide w limit) (bytes : List ℕ) (x : ℕ × List ℕ) → IsBytes bytes → natural_at w bytes ≡ Ok x → TakesFront bytes (to_be_bytes w x.0) x.1 × (x.0 < limit)
natural_takes w limit wide bytes x fits e =
    let front = take (byte_len w) bytes in
    let n = from_be_bytes w front in
    let made : ℕ × List ℕ = (n, drop (byte_len w) bytes) in
    let g = guard_ok (ltb (length bytes) (byte_len w)) faults.Short made x e in
    let long : byte_len w ≤ length bytes = ltb-false _ _ g.0 in
    let len : length front ≡ byte_len w = omega (arith, length-take (byte_len w) bytes) in
    let spelled : to_be_bytes w n ≡ front = wide.back front len (IsBytes-take (byte_len w) bytes fits) in
    let parts : bytes ≡ to_be_bytes w n ++ drop (byte_len w) bytes = sym (ap (λ (xs : List ℕ). xs ++ drop (byte_len w) bytes) spelled ∙ take-append-drop (byte_len w) bytes) in
    subst (λ (y : ℕ × List ℕ). TakesFront bytes (to_be_bytes w y.0) y.1 × (y.0 < limit)) g.1
    (record { parts = parts; rest_fits = IsBytes-drop (byte_len w) bytes fits }, wide.below front (IsBytes-take (byte_len w) bytes fits))

natural_again : (w : Width) (limit : ℕ) (wide : IsWide w limit) (n : ℕ) (rest : List ℕ) → n < limit → natural_at w (to_be_bytes w n ++ rest) ≡ Ok (n, rest)
natural_again w limit wide n rest small =
    let len = wide.len n in
    let long : ltb (length (to_be_bytes w n ++ rest)) (byte_len w) ≡ false = le-ltb _ _ (omega (arith, length-append (to_be_bytes w n) rest)) in
    rw (long, take_at (to_be_bytes w n) rest (byte_len w) len, drop_at (to_be_bytes w n) rest (byte_len w) len, wide.again n small) refl

natural_field : (w : Width) (limit : ℕ) (wide : IsWide w limit) → IsField (natural_at w) (to_be_bytes w) (λ n. n < limit)
natural_field w limit wide = record {
  takes = λ bytes x fits e. natural_takes w limit wide bytes x fits e;
  again = λ n rest small. natural_again w limit wide n rest small;
}

pub word_field : IsField (natural_at w32) word IsWord
word_field = natural_field w32 (2 ^ 32) wide32

pub long_word_field : IsField (natural_at w64) long_word IsLongWord
long_word_field = natural_field w64 (2 ^ 64) wide64

-- ---- bytes and texts

counted_takes : (bytes : List ℕ) (x : List ℕ × List ℕ) → IsBytes bytes → counted_at bytes ≡ Ok x → TakesFront bytes (counted x.0) x.1 × IsCounted x.0
unfolding counted_at
counted_takes bytes x fits e =
    let a = first_read (natural_at w64) long_word IsLongWord long_word_field bytes (λ len. bytes_at len.0 len.1) x fits e in
    let t = bytes_take a.got.0 a.got.1 x a.took.rest_fits a.goes in
    let both = TakesFront-then bytes (long_word a.got.0) a.got.1 x.0 x.1 a.took t.0 in
    (subst (λ (k : ℕ). TakesFront bytes (long_word k ++ x.0) x.1) (sym t.1) both, subst (λ (k : ℕ). k < 2 ^ 64) (sym t.1) a.fits)

counted_again : (content rest : List ℕ) → IsCounted content → counted_at (counted content ++ rest) ≡ Ok (content, rest)
unfolding counted_at
counted_again content rest short =
    ap counted_at (append_assoc (long_word (length content)) content rest) ∙ rw (long_word_field.again (length content) (content ++ rest) short, bytes_again content rest) refl

counted_field : IsField counted_at counted IsCounted
counted_field = record { takes = counted_takes; again = counted_again }

text_takes : (bytes : List ℕ) (x : List ℕ × List ℕ) → IsBytes bytes → text_at bytes ≡ Ok x → TakesFront bytes (counted x.0) x.1 × IsText x.0
unfolding text_at
text_takes bytes x fits e =
    let a = first_read counted_at counted IsCounted counted_field bytes (λ text. cond (is_utf8 text.0) (Ok text) (Err faults.Text)) x fits e in
    let g = guard_ended (is_utf8 a.got.0) faults.Text a.got x a.goes in
    at_ok (λ (y : List ℕ × List ℕ). TakesFront bytes (counted y.0) y.1 × IsText y.0) a.got x (ap Ok g.1) (a.took, record { short = a.fits; utf8 = IsUtf8-from_is_utf8 a.got.0 g.0 })

text_again : (text rest : List ℕ) → IsText text → text_at (counted text ++ rest) ≡ Ok (text, rest)
unfolding text_at
text_again text rest is = rw (counted_field.again text rest is.short, is_text text is.utf8) refl

pub text_field : IsField text_at counted IsText
text_field = record { takes = text_takes; again = text_again }

optional_by_takes : (flag : Bool) (rest : List ℕ) (x : Option (List ℕ) × List ℕ) → IsBytes rest → optional_by flag rest ≡ Ok x → (bytes : List ℕ) → TakesFront bytes (boolean flag) rest → TakesFront bytes (optional x.0) x.1 × IsOptional x.0
optional_by_takes true rest x fits e bytes took =
    let b = bind_ok {A = List ℕ × List ℕ} {B = Option (List ℕ) × List ℕ} (counted_at rest) (λ content. Ok (Some content.0, content.1)) x e in
    let t = counted_field.takes rest b.0 fits b.1 in
    let both = TakesFront-then bytes (boolean true) rest (counted b.0.0) b.0.1 took t.0 in
    let made : Option (List ℕ) × List ℕ = (Some b.0.0, b.0.1) in
    at_ok (λ (y : Option (List ℕ) × List ℕ). TakesFront bytes (optional y.0) y.1 × IsOptional y.0) made x b.2 (both, t.1)
optional_by_takes false rest x fits e bytes took =
    let made : Option (List ℕ) × List ℕ = (None, rest) in
    at_ok (λ (y : Option (List ℕ) × List ℕ). TakesFront bytes (optional y.0) y.1 × IsOptional y.0) made x e (took, tt)

optional_takes : (bytes : List ℕ) (x : Option (List ℕ) × List ℕ) → IsBytes bytes → optional_at bytes ≡ Ok x → TakesFront bytes (optional x.0) x.1 × IsOptional x.0
unfolding optional_at
optional_takes bytes x fits e =
    let a = first_read _ _ _ boolean_field bytes (λ flag. optional_by flag.0 flag.1) x fits e in
    optional_by_takes a.got.0 a.got.1 x a.took.rest_fits a.goes bytes a.took

optional_again : (content : Option (List ℕ)) (rest : List ℕ) → IsOptional content → optional_at (optional content ++ rest) ≡ Ok (content, rest)
unfolding optional_at
optional_again None rest is = rw (boolean_field.again false rest tt) refl
optional_again (Some content) rest is =
    ap optional_at (append_assoc (boolean true) (counted content) rest) ∙ rw (boolean_field.again true (counted content ++ rest) tt, counted_field.again content rest is) refl

pub optional_field : IsField optional_at optional IsOptional
optional_field = record { takes = optional_takes; again = optional_again }

-- ---- lists

list_takes : {A : Type 0} (read : Reader A) (element : A → List ℕ) (Fits : A → Type 0) → IsField read element Fits → (bytes : List ℕ) (x : List A × List ℕ) → IsBytes bytes → list_at read bytes ≡ Ok x → TakesFront bytes (counted_list element x.0) x.1 × AreCounted Fits x.0
unfolding list_at
list_takes {A} read element Fits field bytes x fits e =
    let a = first_read (natural_at w64) long_word IsLongWord long_word_field bytes (λ n. many_at read n.0 n.1) x fits e in
    let b = many_take read element Fits field a.got.0 a.got.1 x a.took.rest_fits a.goes in
    let both = TakesFront-then bytes (long_word a.got.0) a.got.1 (flat_map element x.0) x.1 a.took b.0 in
    (subst (λ (k : ℕ). TakesFront bytes (long_word k ++ flat_map element x.0) x.1) (sym b.1) both, record { count = subst (λ (k : ℕ). k < 2 ^ 64) (sym b.1) a.fits; each = b.2 })

list_again : {A : Type 0} (read : Reader A) (element : A → List ℕ) (Fits : A → Type 0) → IsField read element Fits → (xs : List A) (rest : List ℕ) → AreCounted Fits xs → list_at read (counted_list element xs ++ rest) ≡ Ok (xs, rest)
unfolding list_at
list_again read element Fits field xs rest are =
    ap (list_at read) (append_assoc (long_word (length xs)) (flat_map element xs) rest) ∙ rw (long_word_field.again (length xs) (flat_map element xs ++ rest) are.count) (many_again read element Fits field xs rest are.each)

pub list_field : {A : Type 0} {read : Reader A} {element : A → List ℕ} {Fits : A → Type 0} → IsField read element Fits → IsField (list_at read) (counted_list element) (AreCounted Fits)
list_field {read = read} {element = element} {Fits = Fits} field = record {
  takes = λ bytes x fits e. list_takes read element Fits field bytes x fits e;
  again = λ xs rest are. list_again read element Fits field xs rest are;
}

-- ---- identities

id_fields : Id → List ℕ × List ℕ
id_fields id = (id.scheme, id.id)

pub identity_field : IsField identity_at identity IsIdentity
unfolding identity_at id_fields
identity_field = made_field (text_at & text_at) _ _ id_from id_fields (pair_field text_field text_field) (λ id. refl) (λ fields. refl)

acl_fields : Acl → ℤ × Id
acl_fields acl = (acl.perms, acl.id)

pub acl_field : IsField acl_at acl_entry IsAcl
unfolding acl_at acl_entry acl_fields
acl_field = made_field (number_at w32 & identity_at) _ _ acl_from acl_fields (pair_field int_field identity_field) (λ acl. refl) (λ fields. refl)
