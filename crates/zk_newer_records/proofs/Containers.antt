-- Bodies of containers, and digests: reading is the inverse of writing.
use Rattle.std.proofs.Common.{◌≡◌, ℕ, ℤ, pos, Bool, false, cond, List, [], ◌++◌, Option, Some, None, Result, Ok, Err, refl, sym, ap, ◌∙◌, append_assoc, lit<}
use Rattle.std.specs.Prelude.{FitsSigned}
use Rattle.std.specs.Int.{w32, w64}
use Rattle.std.specs.Ordering.{int_eq}
use Rattle.std.proofs.lemmas.Bool.{eqb-true}
use Rattle.std.proofs.lemmas.Bool.Decides.{Decides-int_eq}
use Rattle.std.proofs.lemmas.List.{append-nil, nil_from_length}
use Rattle.zk_jute.specs.declared.bodies.CreateTxn.{CreateTxn}
use Rattle.zk_jute.specs.declared.fault.JuteFault.{JuteFault}
use Rattle.zk_jute.specs.declared.fault.JuteFault.TheVariants as faults
use Rattle.zk_records.specs.Records.{int, long, ustring, buffer, acl_vector, IsCreateOld}
use Rattle.zk_jute.specs.Reading.{◌>>=◌, number_at, content_at, acl_at, vector_at, whole}
use Rattle.zk_jute.proofs.Numbers.{IsBytes, TakesFront, TakesFront-then, IsField, first_read, bind_ok, at_ok, whole_ok, took_all, either}
use Rattle.zk_jute.proofs.Texts.{int_field, long_field, path_field, content_field}
use Rattle.zk_jute.proofs.Vectors.{acl_vector_field}
use Rattle.zk_newer_records.specs.NewerRecords.{container_body, digest_bytes}
use Rattle.zk_newer_records.specs.Reading.{plain_create, container_at, digest_at}

-- ---- containers

abbrev pub container_txn : CreateTxn → List ℕ
container_txn body = container_body body.front.path body.front.content body.front.acl body.count

pub record IsContainerTxn (body : CreateTxn) : Type 0 where
  pub front : IsCreateOld body.front.path body.front.content body.front.acl
  pub count : FitsSigned w32 body.count
  pub persistent : body.front.ephemeral ≡ false

container_takes : (bytes : List ℕ) (x : CreateTxn × List ℕ) → IsBytes bytes → container_at bytes ≡ Ok x → TakesFront bytes (container_txn x.0) x.1 × IsContainerTxn x.0
unfolding container_at
container_takes bytes x fits e =
    let a = first_read _ _ _ path_field bytes (λ path. content_at path.1 >>= λ content. vector_at acl_at content.1 >>= λ acl. number_at w32 acl.1 >>= λ count. Ok (plain_create path.0 content.0 acl.0 false count.0, count.1)) x fits e in
    let b = first_read _ _ _ content_field a.got.1 (λ content. vector_at acl_at content.1 >>= λ acl. number_at w32 acl.1 >>= λ count. Ok (plain_create a.got.0 content.0 acl.0 false count.0, count.1)) x a.took.rest_fits a.goes in
    let c = first_read _ _ _ acl_vector_field b.got.1 (λ acl. number_at w32 acl.1 >>= λ count. Ok (plain_create a.got.0 b.got.0 acl.0 false count.0, count.1)) x b.took.rest_fits b.goes in
    let d = first_read _ _ _ int_field c.got.1 (λ count. Ok (plain_create a.got.0 b.got.0 c.got.0 false count.0, count.1)) x c.took.rest_fits c.goes in
    let path = ustring a.got.0 in
    let content = buffer b.got.0 in
    let acl = acl_vector c.got.0 in
    let ab = TakesFront-then bytes path a.got.1 content b.got.1 a.took b.took in
    let abc = TakesFront-then bytes (path ++ content) b.got.1 acl c.got.1 ab c.took in
    let all = TakesFront-then bytes (path ++ content ++ acl) c.got.1 (int d.got.0) d.got.1 abc d.took in
    let made : CreateTxn × List ℕ = (plain_create a.got.0 b.got.0 c.got.0 false d.got.0, d.got.1) in
    at_ok (λ (y : CreateTxn × List ℕ). TakesFront bytes (container_txn y.0) y.1 × IsContainerTxn y.0) made x d.goes (all, record { front = (a.fits, b.fits, c.fits); count = d.fits; persistent = refl })

regroup4 : (a b c d r : List ℕ) → (((a ++ b) ++ c) ++ d) ++ r ≡ a ++ (b ++ (c ++ (d ++ r)))
regroup4 a b c d r = simp append_assoc

container_again : (body : CreateTxn) (rest : List ℕ) → IsContainerTxn body → container_at (container_txn body ++ rest) ≡ Ok (body, rest)
unfolding container_at
container_again body rest is =
    ap container_at (regroup4 (ustring body.front.path) (buffer body.front.content) (acl_vector body.front.acl) (int body.count) rest)
    ∙ rw (
      path_field.again body.front.path (buffer body.front.content ++ (acl_vector body.front.acl ++ (int body.count ++ rest))) is.front.0,
      content_field.again body.front.content (acl_vector body.front.acl ++ (int body.count ++ rest)) is.front.1,
      acl_vector_field.again body.front.acl (int body.count ++ rest) is.front.2,
      int_field.again body.count rest is.count,
    ) (ap (λ (flag : Bool). Ok (plain_create body.front.path body.front.content body.front.acl flag body.count, rest)) (sym is.persistent))

pub container_field : IsField container_at container_txn IsContainerTxn
container_field = record { takes = container_takes; again = container_again }

-- ---- digests

abbrev pub IsSum : Option ℤ → Type 0
IsSum None = Unit {0}
IsSum (Some sum) = FitsSigned w64 sum

some_sum : (bytes : List ℕ) (digest : Option ℤ) → IsBytes bytes → (number_at w32 bytes >>= λ version. cond (int_eq version.0 (pos 2)) (whole (number_at w64 version.1) >>= λ sum. Ok (Some sum)) (Err faults.Trailing)) ≡ Ok digest → (bytes ≡ digest_bytes digest) × IsSum digest
some_sum bytes digest fits e =
    let a = first_read _ _ _ int_field bytes (λ version. cond (int_eq version.0 (pos 2)) (whole (number_at w64 version.1) >>= λ sum. Ok (Some sum)) (Err faults.Trailing)) digest fits e in
    let P : Type 0 = (bytes ≡ digest_bytes digest) × IsSum digest in
    either _ _ _ digest P (λ same h.
    let b = bind_ok {A = ℤ} {B = Option ℤ} (whole (number_at w64 a.got.1)) (λ sum. Ok (Some sum)) digest h in
    let read = long_field.takes a.got.1 (b.0, []) a.took.rest_fits (whole_ok (number_at w64 a.got.1) b.0 b.1) in
    let two : a.got.0 ≡ pos 2 = (Decides-int_eq a.got.0 (pos 2)).0 same in
    let both = TakesFront-then bytes (int a.got.0) a.got.1 (long b.0) [] a.took read.0 in
    let spelled : bytes ≡ int (pos 2) ++ long b.0 = took_all bytes (int a.got.0 ++ long b.0) both ∙ ap (λ (z : ℤ). int z ++ long b.0) two in
    at_ok (λ (y : Option ℤ). (bytes ≡ digest_bytes y) × IsSum y) (Some b.0) digest b.2 (spelled, read.1))
    (λ h. absurd (cc)) a.goes

pub digest_takes : (bytes : List ℕ) (digest : Option ℤ) → IsBytes bytes → digest_at bytes ≡ Ok digest → (bytes ≡ digest_bytes digest) × IsSum digest
unfolding digest_at
digest_takes bytes digest fits e =
    let P : Type 0 = (bytes ≡ digest_bytes digest) × IsSum digest in
    either _ _ _ digest P (λ none h. at_ok (λ (y : Option ℤ). (bytes ≡ digest_bytes y) × IsSum y) None digest h (nil_from_length bytes (eqb-true _ _ none), tt))
    (λ h. some_sum bytes digest fits h) e

pub two_fits : FitsSigned w32 (pos 2)
two_fits = record { sfits = lit< tt }

pub digest_again : (digest : Option ℤ) → IsSum digest → digest_at (digest_bytes digest) ≡ Ok digest
unfolding digest_at
digest_again None is = refl
digest_again (Some sum) is =
    let tail : number_at w64 (long sum) ≡ Ok (sum, []) = ap (number_at w64) (sym (append-nil (long sum))) ∙ long_field.again sum [] is in
    ap (λ (read : Result (ℤ × List ℕ) JuteFault). read >>= λ version. cond (int_eq version.0 (pos 2)) (whole (number_at w64 version.1) >>= λ sum. Ok (Some sum)) (Err faults.Trailing)) (int_field.again (pos 2) (long sum) two_fits)
    ∙ ap (λ (read : Result (ℤ × List ℕ) JuteFault). whole read >>= λ sum. Ok (Some sum)) tail
