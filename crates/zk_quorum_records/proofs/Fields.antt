-- Packets: reading is the inverse of writing, and what is read of a prefix stays.
use Rattle.std.proofs.Common.{◌≡◌, ℕ, zero, suc, ℤ, pos, negsuc, ◌^◌, ◌<◌, ◌≤◌, Bool, true, false, cond, ltb, List, [], ◌∷◌, ◌++◌, ◌||◌, length, Option, Some, None, Result, Ok, Err, refl, sym, ap, subst, ◌∙◌, append_assoc, arith, lit<}
use Rattle.std.specs.Prelude.{FitsSigned, int_lt}
use Rattle.std.specs.Int.{w32, w64}
use Rattle.std.proofs.lemmas.Bool.{ltb-false, le-ltb}
use Rattle.zk_acl.specs.declared.acl.Id.{Id}
use Rattle.zk_jute.specs.declared.fault.JuteFault.{JuteFault}
use Rattle.zk_jute.specs.declared.fault.JuteFault.TheVariants as faults
use Rattle.zk_jute.specs.Reading.{◌>>=◌, number_at, text_at, content_at, many_at, made_of}
use Rattle.zk_jute.proofs.Numbers.{IsBytes, TakesFront, TakesFront-then, IsField, first_read, bind_ok, guard_ok, at_ok, made_takes}
use Rattle.zk_jute.proofs.Texts.{int_field, long_field, text_field, content_field, pos_fits}
use Rattle.zk_jute.proofs.Vectors.{many_take, many_again}
use Rattle.std.specs.List.{flat_map}
use Rattle.zk_records.specs.Records.{int, long, ustring, buffer, vector, IsText, IsContent}
use Rattle.zk_quorum_records.specs.declared.packet.QuorumPacket.{QuorumPacket}
use Rattle.zk_quorum_records.specs.Packets.{identity, identities, packet, IsIdentity, AreIdentities, IsData, IsPacket}
use Rattle.zk_quorum_records.specs.Reading.{Reader, ◌&◌, length_in, bounded, data_at, identity_from, identity_at, identities_of, identities_at, packet_from, packet_at}
use Rattle.zk_quorum_records.proofs.Steady.{Later, IsSteady, later_bind, made_steady, number_steady, text_steady, content_steady, many_steady}

-- a reader that is the inverse of a writer, and steady
pub record IsSound {A : Type 0} (read : Reader A) (spell : A → List ℕ) (Fits : A → Type 0) : Type 0 where
  pub field : IsField read spell Fits
  pub steady : IsSteady read

-- the same values, said in another way
pub said : {A : Type 0} {read : Reader A} {spell : A → List ℕ} {Fits Suits : A → Type 0} → IsSound read spell Fits → ((a : A) → Fits a → Suits a) → ((a : A) → Suits a → Fits a) → IsSound read spell Suits
said {A} {spell = spell} {Suits = Suits} sound there back = record {
  field = record {
    takes = λ bytes x fits e. let t = sound.field.takes bytes x fits e in (t.0, there x.0 t.1);
    again = λ a rest is. sound.field.again a rest (back a is);
  };
  steady = sound.steady;
}

-- ---- one field after another

pair_takes : {A B : Type 0} (one : Reader A) (spell : A → List ℕ) (Fits : A → Type 0) (other : Reader B) (write : B → List ℕ) (Suits : B → Type 0) → IsField one spell Fits → IsField other write Suits
    → (bytes : List ℕ) (x : (A × B) × List ℕ) → IsBytes bytes → (one & other) bytes ≡ Ok x → TakesFront bytes (spell x.0.0 ++ write x.0.1) x.1 × (Fits x.0.0 × Suits x.0.1)
pair_takes {A} {B} one spell Fits other write Suits first second bytes x fits e =
    let a = first_read one spell Fits first bytes (λ a. other a.1 >>= λ b. Ok ((a.0, b.0), b.1)) x fits e in
    let b = first_read other write Suits second a.got.1 (λ b. Ok ((a.got.0, b.0), b.1)) x a.took.rest_fits a.goes in
    let both = TakesFront-then bytes (spell a.got.0) a.got.1 (write b.got.0) b.got.1 a.took b.took in
    let made : (A × B) × List ℕ = ((a.got.0, b.got.0), b.got.1) in
    at_ok (λ (y : (A × B) × List ℕ). TakesFront bytes (spell y.0.0 ++ write y.0.1) y.1 × (Fits y.0.0 × Suits y.0.1)) made x b.goes (both, (a.fits, b.fits))

pair_again : {A B : Type 0} (one : Reader A) (spell : A → List ℕ) (Fits : A → Type 0) (other : Reader B) (write : B → List ℕ) (Suits : B → Type 0) → IsField one spell Fits → IsField other write Suits
    → (p : A × B) (rest : List ℕ) → Fits p.0 × Suits p.1 → (one & other) ((spell p.0 ++ write p.1) ++ rest) ≡ Ok (p, rest)
pair_again one spell Fits other write Suits first second p rest is =
    ap (one & other) (append_assoc (spell p.0) (write p.1) rest) ∙ rw (first.again p.0 (write p.1 ++ rest) is.0, second.again p.1 rest is.1) refl

pair_steady : {A B : Type 0} (one : Reader A) (other : Reader B) → IsSteady one → IsSteady other → IsSteady (one & other)
pair_steady one other first second bytes more =
    later_bind (one bytes) (one (bytes ++ more)) more (λ a. other a.1 >>= λ b. Ok ((a.0, b.0), b.1)) (first bytes more)
    (λ a. later_bind (other a.1) (other (a.1 ++ more)) more (λ b. Ok ((a.0, b.0), b.1)) (second a.1 more) (λ b. refl))

pub pair_sound : {A B : Type 0} {one : Reader A} {spell : A → List ℕ} {Fits : A → Type 0} {other : Reader B} {write : B → List ℕ} {Suits : B → Type 0} → IsSound one spell Fits → IsSound other write Suits
    → IsSound (one & other) (λ p. spell p.0 ++ write p.1) (λ p. Fits p.0 × Suits p.1)
pair_sound {one = one} {spell = spell} {Fits = Fits} {other = other} {write = write} {Suits = Suits} first second = record {
  field = record {
    takes = λ bytes x fits e. pair_takes one spell Fits other write Suits first.field second.field bytes x fits e;
    again = λ p rest is. pair_again one spell Fits other write Suits first.field second.field p rest is;
  };
  steady = pair_steady one other first.steady second.steady;
}

-- a value that is the same as its fields
pub made_sound : {A B : Type 0} (read : Reader A) (spell : A → List ℕ) (Fits : A → Type 0) (make : A → B) (fields : B → A) → IsSound read spell Fits → ((b : B) → make (fields b) ≡ b) → ((a : A) → fields (make a) ≡ a)
    → IsSound (λ bytes. made_of make (read bytes)) (λ b. spell (fields b)) (λ b. Fits (fields b))
made_sound {A} {B} read spell Fits make fields sound here there = record {
  field = record {
    takes = λ bytes x fits e.
        made_takes read spell Fits sound.field make bytes x (λ (y : B × List ℕ). TakesFront bytes (spell (fields y.0)) y.1 × Fits (fields y.0)) fits e
        (λ a rest took is. subst (λ (z : A). TakesFront bytes (spell z) rest × Fits z) (sym (there a)) (took, is));
    again = λ b rest is. ap (made_of make) (sound.field.again (fields b) rest is) ∙ ap (λ (z : B). Ok (z, rest)) (here b);
  };
  steady = made_steady read make sound.steady;
}

-- ---- numbers and texts

pub int_sound : IsSound (number_at w32) int (FitsSigned w32)
int_sound = record { field = int_field; steady = number_steady w32 }

pub long_sound : IsSound (number_at w64) long (FitsSigned w64)
long_sound = record { field = long_field; steady = number_steady w64 }

pub text_sound : IsSound text_at ustring IsText
text_sound = record { field = text_field; steady = text_steady }

-- ---- lengths within bounds

abbrev pub is_out : ℤ → ℤ → ℤ → Bool
is_out least most len = int_lt len least || int_lt most len

-- bytes that begin with a length
pub record BeginsWith (bytes : List ℕ) (len : ℤ) : Type 0 where
  pub tail : List ℕ
  pub parts : bytes ≡ int len ++ tail
  pub fits : FitsSigned w32 len

abbrev pub IsBounded : {A : Type 0} → (A → Type 0) → (A → ℤ) → ℤ → ℤ → A → Type 0
IsBounded Fits len_of least most a = Fits a × (is_out least most (len_of a) ≡ false)

module _ {A : Type 0} (read : Reader A) (spell : A → List ℕ) (Fits : A → Type 0) (len_of : A → ℤ) (least most : ℤ) (sound : IsSound read spell Fits) (begins : (a : A) → Fits a → BeginsWith (spell a) (len_of a)) where
  length_is : (a : A) (rest : List ℕ) → Fits a → length_in least most (spell a ++ rest) ≡ cond (is_out least most (len_of a)) (Err faults.Length) (Ok (len_of a))
  unfolding length_in
  length_is a rest is =
      let b = begins a is in
      let first : number_at w32 (spell a ++ rest) ≡ Ok (len_of a, b.tail ++ rest) =
      ap (λ (l : List ℕ). number_at w32 (l ++ rest)) b.parts ∙ ap (number_at w32) (append_assoc (int (len_of a)) b.tail rest) ∙ int_field.again (len_of a) (b.tail ++ rest) b.fits in
      rw first refl

  bounded_takes : (bytes : List ℕ) (x : A × List ℕ) → IsBytes bytes → bounded least most read bytes ≡ Ok x → TakesFront bytes (spell x.0) x.1 × IsBounded Fits len_of least most x.0
  bounded_takes bytes x fits e =
      let b = bind_ok {A = ℤ} {B = A × List ℕ} (length_in least most bytes) (λ len. read bytes) x e in
      let t = sound.field.takes bytes x fits b.2 in
      let stated = sym (length_is x.0 x.1 t.1) ∙ ap (length_in least most) (sym t.0.parts) ∙ b.1 in
      let g = guard_ok (is_out least most (len_of x.0)) faults.Length (len_of x.0) b.0 stated in
      (t.0, (t.1, g.0))

  bounded_again : (a : A) (rest : List ℕ) → IsBounded Fits len_of least most a → bounded least most read (spell a ++ rest) ≡ Ok (a, rest)
  bounded_again a rest is = rw (length_is a rest is.0, is.1) (sound.field.again a rest is.0)

  abbrev tested : ℤ × List ℕ → Result ℤ JuteFault
  tested len = cond (is_out least most len.0) (Err faults.Length) (Ok len.0)

  abbrev after_test : Result (ℤ × List ℕ) JuteFault → Result (A × List ℕ) JuteFault → Result (A × List ℕ) JuteFault
  after_test number field = (number >>= tested) >>= λ len. field

  by_test : (b : Bool) (len : ℤ) (more : List ℕ) (p q : Result (A × List ℕ) JuteFault) → Later p more q → Later (cond b (Err faults.Length) (Ok len) >>= λ l. p) more (cond b (Err faults.Length) (Ok len) >>= λ l. q)
  by_test true len more p q both = refl
  by_test false len more p q both = both

  bounded_later : (r s : Result (ℤ × List ℕ) JuteFault) (more : List ℕ) (p q : Result (A × List ℕ) JuteFault) → Later r more s → Later p more q → Later (after_test r p) more (after_test s q)
  bounded_later (Ok x) s more p q first both = subst (λ (t : Result (ℤ × List ℕ) JuteFault). Later (after_test (Ok x) p) more (after_test t q)) (sym first) (by_test (is_out least most x.0) x.0 more p q both)
  bounded_later (Err faults.Short) s more p q first both = tt
  bounded_later (Err faults.Length) s more p q first both = rw first refl
  bounded_later (Err faults.Text) s more p q first both = rw first refl
  bounded_later (Err faults.Boolean) s more p q first both = rw first refl
  bounded_later (Err faults.Kind) s more p q first both = rw first refl
  bounded_later (Err faults.Trailing) s more p q first both = rw first refl
  bounded_later (Err faults.Path) s more p q first both = rw first refl
  bounded_later (Err faults.NoMemory) s more p q first both = rw first refl

  bounded_steady : IsSteady (bounded least most read)
  unfolding length_in
  bounded_steady bytes more = bounded_later (number_at w32 bytes) (number_at w32 (bytes ++ more)) more (read bytes) (read (bytes ++ more)) (number_steady w32 bytes more) (sound.steady bytes more)

  pub bounded_sound : IsSound (bounded least most read) spell (IsBounded Fits len_of least most)
  bounded_sound = record { field = record { takes = bounded_takes; again = bounded_again }; steady = bounded_steady }

-- ---- data

abbrev pub data_length : Option (List ℕ) → ℤ
data_length None = negsuc 0
data_length (Some content) = pos (length content)

pub data_begins : (content : Option (List ℕ)) → IsContent content → BeginsWith (buffer content) (data_length content)
data_begins None is = record { tail = []; parts = refl; fits = record { sfits = lit< tt } }
data_begins (Some content) is = record { tail = content; parts = refl; fits = pos_fits (length content) is }

data_is : (content : Option (List ℕ)) → IsBounded IsContent data_length (negsuc 0) (pos 16777216) content → IsData content
data_is None is = tt
data_is (Some content) is = ltb-false 16777216 (length content) is.1

is_data : (content : Option (List ℕ)) → IsData content → IsBounded IsContent data_length (negsuc 0) (pos 16777216) content
is_data None is = (tt, refl)
is_data (Some content) is = (omega (arith, is), le-ltb 16777216 (length content) is)

pub data_sound : IsSound data_at buffer IsData
unfolding data_at
data_sound = said (bounded_sound content_at buffer IsContent data_length (negsuc 0) (pos 16777216) (record { field = content_field; steady = content_steady }) data_begins) data_is is_data

-- ---- identities

identity_fields : Id → List ℕ × List ℕ
identity_fields id = (id.scheme, id.id)

pub identity_sound : IsSound identity_at identity IsIdentity
unfolding identity_at identity_fields
identity_sound = made_sound (text_at & text_at) _ _ identity_from identity_fields (pair_sound text_sound text_sound) (λ id. refl) (λ fields. refl)

identities_of_takes : (z : ℤ) (rest : List ℕ) (x : Option (List Id) × List ℕ) → FitsSigned w32 z → IsBytes rest → identities_of z rest ≡ Ok x → (bytes : List ℕ) → TakesFront bytes (int z) rest → TakesFront bytes (identities x.0) x.1 × AreIdentities x.0
identities_of_takes (pos n) rest x small fits e = λ bytes took.
    let b = bind_ok {A = List Id × List ℕ} {B = Option (List Id) × List ℕ} (many_at identity_at n rest) (λ ids. Ok (Some ids.0, ids.1)) x e in
    let t = many_take identity_at identity IsIdentity identity_sound.field n rest b.0 fits b.1 in
    let both = TakesFront-then bytes (int (pos n)) rest _ b.0.1 took t.0 in
    let whole : TakesFront bytes (identities (Some b.0.0)) b.0.1 = subst (λ (k : ℕ). TakesFront bytes (int (pos k) ++ flat_map identity b.0.0) b.0.1) (sym t.1) both in
    let made : Option (List Id) × List ℕ = (Some b.0.0, b.0.1) in
    at_ok (λ (y : Option (List Id) × List ℕ). TakesFront bytes (identities y.0) y.1 × AreIdentities y.0) made x b.2
    (whole, record { count = subst (λ (k : ℕ). k < 2 ^ 31) (sym t.1) small.sfits; each = t.2 })
identities_of_takes (negsuc zero) rest x small fits e = λ bytes took.
    let made : Option (List Id) × List ℕ = (None, rest) in
    at_ok (λ (y : Option (List Id) × List ℕ). TakesFront bytes (identities y.0) y.1 × AreIdentities y.0) made x e (took, tt)
identities_of_takes (negsuc (suc n)) rest x small fits e = absurd cc

identities_takes : (bytes : List ℕ) (x : Option (List Id) × List ℕ) → IsBytes bytes → identities_at bytes ≡ Ok x → TakesFront bytes (identities x.0) x.1 × AreIdentities x.0
unfolding identities_at
identities_takes bytes x fits e =
    let a = first_read (number_at w32) int (FitsSigned w32) int_field bytes (λ count. identities_of count.0 count.1) x fits e in
    identities_of_takes a.got.0 a.got.1 x a.fits a.took.rest_fits a.goes bytes a.took

identities_again : (ids : Option (List Id)) (rest : List ℕ) → AreIdentities ids → identities_at (identities ids ++ rest) ≡ Ok (ids, rest)
unfolding identities_at
identities_again None rest is = rw (int_field.again (negsuc 0) rest (record { sfits = lit< tt })) refl
identities_again (Some ids) rest is =
    ap identities_at (append_assoc (int (pos (length ids))) (flat_map identity ids) rest)
    ∙ rw (int_field.again (pos (length ids)) (flat_map identity ids ++ rest) (pos_fits (length ids) is.count), many_again identity_at identity IsIdentity identity_sound.field ids rest is.each) refl

identities_later : (z : ℤ) (rest more : List ℕ) → Later (identities_of z rest) more (identities_of z (rest ++ more))
identities_later (pos n) rest more = made_steady (many_at identity_at n) Some (many_steady identity_at n identity_sound.steady) rest more
identities_later (negsuc zero) rest more = refl
identities_later (negsuc (suc n)) rest more = refl

identities_steady : IsSteady identities_at
unfolding identities_at
identities_steady bytes more = later_bind _ _ more (λ count. identities_of count.0 count.1) (number_steady w32 bytes more) (λ count. identities_later count.0 count.1 more)

pub identities_sound : IsSound identities_at identities AreIdentities
identities_sound = record { field = record { takes = identities_takes; again = identities_again }; steady = identities_steady }

-- ---- packets

packet_fields : QuorumPacket → ((ℤ × ℤ) × Option (List ℕ)) × Option (List Id)
packet_fields p = (((p.kind, p.zxid), p.content), p.authinfo)

pub packet_sound : IsSound packet_at packet IsPacket
unfolding packet_at packet packet_fields
packet_sound =
    said (made_sound (number_at w32 & number_at w64 & data_at & identities_at) _ _ packet_from packet_fields (pair_sound (pair_sound (pair_sound int_sound long_sound) data_sound) identities_sound) (λ p. refl) (λ fields. refl))
    (λ p is. record { kind = is.0.0.0; zxid = is.0.0.1; content = is.0.1; authinfo = is.1 }) (λ p is. (((is.kind, is.zxid), is.content), is.authinfo))
