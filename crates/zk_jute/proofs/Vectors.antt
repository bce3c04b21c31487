-- Vectors: a count, and that many elements.
use Rattle.std.proofs.Common.{◌≡◌, ℕ, zero, suc, ◌^◌, ◌<◌, List, [], ◌∷◌, ◌++◌, length, Result, Ok, refl, sym, ap, subst, ◌∙◌, append_assoc}
use Rattle.std.specs.List.{flat_map, AllByRecursion}
use Rattle.std.proofs.lemmas.List.Concat.{flat_map-cons}
use Rattle.zk_acl.specs.declared.acl.Acl.{Acl}
use Rattle.zk_jute.specs.declared.fault.JuteFault.{JuteFault}
use Rattle.zk_records.specs.Records.{int, ustring, vector, acl_entry, acl_vector, AreElements, IsAcl, AreAcls}
use Rattle.zk_jute.specs.Reading.{◌>>=◌, text_at, count_at, many_at, vector_at, acl_at}
use Rattle.zk_jute.proofs.Numbers.{IsBytes, TakesFront, TakesFront-then, IsField, first_read, bind_ok, ok_is, at_ok}
use Rattle.zk_jute.proofs.Texts.{int_field, count, IsCount, count_field, text_field}

-- ---- n elements

pub many_take : {A : Type 0} (read : List ℕ → Result (A × List ℕ) JuteFault) (element : A → List ℕ) (Fits : A → Type 0) → IsField read element Fits → (n : ℕ) (bytes : List ℕ) (x : List A × List ℕ) → IsBytes bytes → many_at read n bytes ≡ Ok x → TakesFront bytes (flat_map element x.0) x.1 × (length x.0 ≡ n) × AllByRecursion Fits x.0
unfolding many_at
many_take {A} read element Fits field zero bytes x fits e =
    let made : List A × List ℕ = ([], bytes) in
    subst (λ (y : List A × List ℕ). TakesFront bytes (flat_map element y.0) y.1 × (length y.0 ≡ 0) × AllByRecursion Fits y.0) (ok_is made x e) (record { parts = refl; rest_fits = fits }, refl, tt)
many_take {A} read element Fits field (suc n) bytes x fits e =
    let a = first_read read element Fits field bytes (λ first. many_at read n first.1 >>= λ others. Ok (first.0 ∷ others.0, others.1)) x fits e in
    let b = bind_ok {A = List A × List ℕ} {B = List A × List ℕ} (many_at read n a.got.1) (λ others. Ok (a.got.0 ∷ others.0, others.1)) x a.goes in
    let others = many_take read element Fits field n a.got.1 b.0 a.took.rest_fits b.1 in
    let both = TakesFront-then bytes (element a.got.0) a.got.1 (flat_map element b.0.0) b.0.1 a.took others.0 in
    let made : List A × List ℕ = (a.got.0 ∷ b.0.0, b.0.1) in
    subst (λ (y : List A × List ℕ). TakesFront bytes (flat_map element y.0) y.1 × (length y.0 ≡ suc n) × AllByRecursion Fits y.0) (ok_is made x b.2) (rw flat_map-cons both, ap suc others.1, (a.fits, others.2))

pub many_again : {A : Type 0} (read : List ℕ → Result (A × List ℕ) JuteFault) (element : A → List ℕ) (Fits : A → Type 0) → IsField read element Fits → (xs : List A) (rest : List ℕ) → AllByRecursion Fits xs → many_at read (length xs) (flat_map element xs ++ rest) ≡ Ok (xs, rest)
unfolding many_at
many_again read element Fits field [] rest fits = refl
many_again read element Fits field (x ∷ xs) rest fits =
    let regrouped : flat_map element (x ∷ xs) ++ rest ≡ element x ++ (flat_map element xs ++ rest) = ap (λ (ys : List ℕ). ys ++ rest) (flat_map-cons element x xs) ∙ append_assoc (element x) (flat_map element xs) rest in
    ap (many_at read (suc (length xs))) regrouped ∙ rw (field.again x (flat_map element xs ++ rest) fits.0, many_again read element Fits field xs rest fits.1) refl

-- ---- a vector

pub vector_takes : {A : Type 0} (read : List ℕ → Result (A × List ℕ) JuteFault) (element : A → List ℕ) (Fits : A → Type 0) → IsField read element Fits → (bytes : List ℕ) (x : List A × List ℕ) → IsBytes bytes → vector_at read bytes ≡ Ok x → TakesFront bytes (vector element x.0) x.1 × AreElements Fits x.0
unfolding vector_at
vector_takes {A} read element Fits field bytes x fits e =
    let a = first_read count_at count IsCount count_field bytes (λ n. many_at read n.0 n.1) x fits e in
    let b = many_take read element Fits field a.got.0 a.got.1 x a.took.rest_fits a.goes in
    let both = TakesFront-then bytes (count a.got.0) a.got.1 (flat_map element x.0) x.1 a.took b.0 in
    (subst (λ (k : ℕ). TakesFront bytes (count k ++ flat_map element x.0) x.1) (sym b.1) both, record { count = subst (λ (k : ℕ). k < 2 ^ 31) (sym b.1) a.fits; each = b.2 })

pub vector_again : {A : Type 0} (read : List ℕ → Result (A × List ℕ) JuteFault) (element : A → List ℕ) (Fits : A → Type 0) → IsField read element Fits → (xs : List A) (rest : List ℕ) → AreElements Fits xs → vector_at read (vector element xs ++ rest) ≡ Ok (xs, rest)
unfolding vector_at
vector_again read element Fits field xs rest are =
    ap (vector_at read) (append_assoc (count (length xs)) (flat_map element xs) rest) ∙ rw (count_field.again (length xs) (flat_map element xs ++ rest) are.count) (many_again read element Fits field xs rest are.each)

-- ---- access control lists

acl_takes : (bytes : List ℕ) (x : Acl × List ℕ) → IsBytes bytes → acl_at bytes ≡ Ok x → TakesFront bytes (acl_entry x.0) x.1 × IsAcl x.0
unfolding acl_at
acl_takes bytes x fits e =
    let a = first_read _ _ _ int_field bytes (λ perms. text_at perms.1 >>= λ scheme. text_at scheme.1 >>= λ id. Ok (record { perms = perms.0; id = record { scheme = scheme.0; id = id.0 } }, id.1)) x fits e in
    let b = first_read _ _ _ text_field a.got.1 (λ scheme. text_at scheme.1 >>= λ id. Ok (record { perms = a.got.0; id = record { scheme = scheme.0; id = id.0 } }, id.1)) x a.took.rest_fits a.goes in
    let c = first_read _ _ _ text_field b.got.1 (λ id. Ok (record { perms = a.got.0; id = record { scheme = b.got.0; id = id.0 } }, id.1)) x b.took.rest_fits b.goes in
    let ab = TakesFront-then bytes (int a.got.0) a.got.1 (ustring b.got.0) b.got.1 a.took b.took in
    let abc = TakesFront-then bytes (int a.got.0 ++ ustring b.got.0) b.got.1 (ustring c.got.0) c.got.1 ab c.took in
    let made : Acl × List ℕ = (record { perms = a.got.0; id = record { scheme = b.got.0; id = c.got.0 } }, c.got.1) in
    at_ok (λ (y : Acl × List ℕ). TakesFront bytes (acl_entry y.0) y.1 × IsAcl y.0) made x c.goes (abc, record { perms = a.fits; scheme = b.fits; id = c.fits })

regroup3 : (a b c r : List ℕ) → ((a ++ b) ++ c) ++ r ≡ a ++ (b ++ (c ++ r))
regroup3 a b c r = simp append_assoc

acl_again : (acl : Acl) (rest : List ℕ) → IsAcl acl → acl_at (acl_entry acl ++ rest) ≡ Ok (acl, rest)
unfolding acl_at
acl_again acl rest is =
    ap acl_at (regroup3 (int acl.perms) (ustring acl.id.scheme) (ustring acl.id.id) rest)
    ∙ rw (int_field.again acl.perms (ustring acl.id.scheme ++ (ustring acl.id.id ++ rest)) is.perms, text_field.again acl.id.scheme (ustring acl.id.id ++ rest) is.scheme, text_field.again acl.id.id rest is.id) refl

pub acl_field : IsField acl_at acl_entry IsAcl
acl_field = record { takes = acl_takes; again = acl_again }

pub vector_field : {A : Type 0} (read : List ℕ → Result (A × List ℕ) JuteFault) (element : A → List ℕ) (Fits : A → Type 0) → IsField read element Fits → IsField (vector_at read) (vector element) (AreElements Fits)
vector_field read element Fits field = record {
  takes = λ bytes x fits e. vector_takes read element Fits field bytes x fits e;
  again = λ xs rest are. vector_again read element Fits field xs rest are;
}

pub acl_vector_field : IsField (vector_at acl_at) acl_vector AreAcls
acl_vector_field = vector_field acl_at acl_entry IsAcl acl_field
