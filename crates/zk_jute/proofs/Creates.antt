-- Bodies that occur alone and in a multi: reading is the inverse of writing.
use Rattle.std.proofs.Common.{◌≡◌, ℕ, List, ◌++◌, Ok, refl, ap, ◌∙◌, append_assoc}
use Rattle.std.specs.Int.{w32}
use Rattle.zk_jute.specs.declared.bodies.CreateTxn.{CreateTxn}
use Rattle.zk_jute.specs.declared.bodies.CreateTxnV0.{CreateTxnV0}
use Rattle.zk_jute.specs.declared.bodies.SetDataTxn.{SetDataTxn}
use Rattle.zk_records.specs.Records.{int, ustring, buffer, boolean, acl_vector, create_old_body, set_data_body, IsCreate, IsCreateOld, IsSetData}
use Rattle.zk_jute.specs.Reading.{◌>>=◌, number_at, content_at, boolean_at, acl_at, vector_at, front_at, create_at, with_count, set_data_at}
use Rattle.zk_jute.proofs.Numbers.{IsBytes, TakesFront, TakesFront-then, IsField, first_read, at_ok}
use Rattle.zk_jute.proofs.Texts.{int_field, path_field, content_field, boolean_field}
use Rattle.zk_jute.proofs.Vectors.{acl_vector_field}

abbrev pub front_txn : CreateTxnV0 → List ℕ
front_txn body = create_old_body body.path body.content body.acl body.ephemeral

abbrev pub IsFront : CreateTxnV0 → Type 0
IsFront body = IsCreateOld body.path body.content body.acl

abbrev pub create_txn : CreateTxn → List ℕ
create_txn body = front_txn body.front ++ int body.count

abbrev pub IsCreateTxn : CreateTxn → Type 0
IsCreateTxn body = IsCreate body.front.path body.front.content body.front.acl body.count

abbrev pub set_data_txn : SetDataTxn → List ℕ
set_data_txn body = set_data_body body.path body.content body.version

abbrev pub IsSetDataTxn : SetDataTxn → Type 0
IsSetDataTxn body = IsSetData body.path body.content body.version

front_takes : (bytes : List ℕ) (x : CreateTxnV0 × List ℕ) → IsBytes bytes → front_at bytes ≡ Ok x → TakesFront bytes (front_txn x.0) x.1 × IsFront x.0
unfolding front_at
front_takes bytes x fits e =
    let a = first_read _ _ _ path_field bytes (λ path. content_at path.1 >>= λ content. vector_at acl_at content.1 >>= λ acl. boolean_at acl.1 >>= λ ephemeral. Ok (record { path = path.0; content = content.0; acl = acl.0; ephemeral = ephemeral.0 }, ephemeral.1)) x fits e in
    let b = first_read _ _ _ content_field a.got.1 (λ content. vector_at acl_at content.1 >>= λ acl. boolean_at acl.1 >>= λ ephemeral. Ok (record { path = a.got.0; content = content.0; acl = acl.0; ephemeral = ephemeral.0 }, ephemeral.1)) x a.took.rest_fits a.goes in
    let c = first_read _ _ _ acl_vector_field b.got.1 (λ acl. boolean_at acl.1 >>= λ ephemeral. Ok (record { path = a.got.0; content = b.got.0; acl = acl.0; ephemeral = ephemeral.0 }, ephemeral.1)) x b.took.rest_fits b.goes in
    let d = first_read _ _ _ boolean_field c.got.1 (λ ephemeral. Ok (record { path = a.got.0; content = b.got.0; acl = c.got.0; ephemeral = ephemeral.0 }, ephemeral.1)) x c.took.rest_fits c.goes in
    let path = ustring a.got.0 in
    let content = buffer b.got.0 in
    let acl = acl_vector c.got.0 in
    let flag = boolean d.got.0 in
    let ab = TakesFront-then bytes path a.got.1 content b.got.1 a.took b.took in
    let abc = TakesFront-then bytes (path ++ content) b.got.1 acl c.got.1 ab c.took in
    let all = TakesFront-then bytes (path ++ content ++ acl) c.got.1 flag d.got.1 abc d.took in
    let made : CreateTxnV0 × List ℕ = (record { path = a.got.0; content = b.got.0; acl = c.got.0; ephemeral = d.got.0 }, d.got.1) in
    at_ok (λ (y : CreateTxnV0 × List ℕ). TakesFront bytes (front_txn y.0) y.1 × IsFront y.0) made x d.goes (all, (a.fits, b.fits, c.fits))

regroup4 : (a b c d r : List ℕ) → (((a ++ b) ++ c) ++ d) ++ r ≡ a ++ (b ++ (c ++ (d ++ r)))
regroup4 a b c d r = simp append_assoc

front_again : (body : CreateTxnV0) (rest : List ℕ) → IsFront body → front_at (front_txn body ++ rest) ≡ Ok (body, rest)
unfolding front_at
front_again body rest is =
    ap front_at (regroup4 (ustring body.path) (buffer body.content) (acl_vector body.acl) (boolean body.ephemeral) rest)
    ∙ rw (
      path_field.again body.path (buffer body.content ++ (acl_vector body.acl ++ (boolean body.ephemeral ++ rest))) is.0,
      content_field.again body.content (acl_vector body.acl ++ (boolean body.ephemeral ++ rest)) is.1,
      acl_vector_field.again body.acl (boolean body.ephemeral ++ rest) is.2,
      boolean_field.again body.ephemeral rest tt,
    ) refl

pub front_field : IsField front_at front_txn IsFront
front_field = record { takes = front_takes; again = front_again }

create_takes : (bytes : List ℕ) (x : CreateTxn × List ℕ) → IsBytes bytes → create_at bytes ≡ Ok x → TakesFront bytes (create_txn x.0) x.1 × IsCreateTxn x.0
unfolding create_at
create_takes bytes x fits e =
    let a = first_read _ _ _ front_field bytes (λ front. number_at w32 front.1 >>= λ count. Ok (with_count front.0 count.0, count.1)) x fits e in
    let b = first_read _ _ _ int_field a.got.1 (λ count. Ok (with_count a.got.0 count.0, count.1)) x a.took.rest_fits a.goes in
    let all = TakesFront-then bytes (front_txn a.got.0) a.got.1 (int b.got.0) b.got.1 a.took b.took in
    let made : CreateTxn × List ℕ = (with_count a.got.0 b.got.0, b.got.1) in
    at_ok (λ (y : CreateTxn × List ℕ). TakesFront bytes (create_txn y.0) y.1 × IsCreateTxn y.0) made x b.goes (all, (a.fits.0, a.fits.1, a.fits.2, b.fits))

create_again : (body : CreateTxn) (rest : List ℕ) → IsCreateTxn body → create_at (create_txn body ++ rest) ≡ Ok (body, rest)
unfolding create_at
create_again body rest is =
    ap create_at (append_assoc (front_txn body.front) (int body.count) rest)
    ∙ rw (front_field.again body.front (int body.count ++ rest) (is.0, is.1, is.2), int_field.again body.count rest is.3) refl

pub create_field : IsField create_at create_txn IsCreateTxn
create_field = record { takes = create_takes; again = create_again }

set_data_takes : (bytes : List ℕ) (x : SetDataTxn × List ℕ) → IsBytes bytes → set_data_at bytes ≡ Ok x → TakesFront bytes (set_data_txn x.0) x.1 × IsSetDataTxn x.0
unfolding set_data_at
set_data_takes bytes x fits e =
    let a = first_read _ _ _ path_field bytes (λ path. content_at path.1 >>= λ content. number_at w32 content.1 >>= λ version. Ok (record { path = path.0; content = content.0; version = version.0 }, version.1)) x fits e in
    let b = first_read _ _ _ content_field a.got.1 (λ content. number_at w32 content.1 >>= λ version. Ok (record { path = a.got.0; content = content.0; version = version.0 }, version.1)) x a.took.rest_fits a.goes in
    let c = first_read _ _ _ int_field b.got.1 (λ version. Ok (record { path = a.got.0; content = b.got.0; version = version.0 }, version.1)) x b.took.rest_fits b.goes in
    let path = ustring a.got.0 in
    let content = buffer b.got.0 in
    let ab = TakesFront-then bytes path a.got.1 content b.got.1 a.took b.took in
    let all = TakesFront-then bytes (path ++ content) b.got.1 (int c.got.0) c.got.1 ab c.took in
    let made : SetDataTxn × List ℕ = (record { path = a.got.0; content = b.got.0; version = c.got.0 }, c.got.1) in
    at_ok (λ (y : SetDataTxn × List ℕ). TakesFront bytes (set_data_txn y.0) y.1 × IsSetDataTxn y.0) made x c.goes (all, (a.fits, b.fits, c.fits))

regroup3 : (a b c r : List ℕ) → ((a ++ b) ++ c) ++ r ≡ a ++ (b ++ (c ++ r))
regroup3 a b c r = simp append_assoc

set_data_again : (body : SetDataTxn) (rest : List ℕ) → IsSetDataTxn body → set_data_at (set_data_txn body ++ rest) ≡ Ok (body, rest)
unfolding set_data_at
set_data_again body rest is =
    ap set_data_at (regroup3 (ustring body.path) (buffer body.content) (int body.version) rest)
    ∙ rw (path_field.again body.path (buffer body.content ++ (int body.version ++ rest)) is.0, content_field.again body.content (int body.version ++ rest) is.1, int_field.again body.version rest is.2) refl

pub set_data_field : IsField set_data_at set_data_txn IsSetDataTxn
set_data_field = record { takes = set_data_takes; again = set_data_again }
