-- Nothing follows a 3.3 create, as it was read.
use Rattle.std.proofs.Common.{◌≡◌, ℕ, ℤ, pos, List, [], ◌∷◌, Result, Ok, Err, refl}
use Rattle.std.specs.Prelude.{if◌then◌else◌}
use Rattle.std.specs.Int.{w32, w64}
use Rattle.std.specs.Ordering.{int_eq}
use Rattle.zk_table.specs.declared.txn.Op.{Op}
use Rattle.zk_table.specs.declared.txn.Op.TheVariants as ops
use Rattle.zk_jute.specs.declared.bodies.CreateTxn.{CreateTxn}
use Rattle.zk_jute.specs.declared.bodies.CreateTxnV0.{CreateTxnV0}
use Rattle.zk_jute.specs.declared.fault.JuteFault.{JuteFault}
use Rattle.zk_jute.specs.declared.fault.JuteFault.TheVariants as faults
use Rattle.zk_records.specs.Records.{IsOldCreate}
use Rattle.zk_jute.specs.Reading.{◌>>=◌, number_at, path_at, vector_at, acl_at, part_at, check_at, create_at, set_data_at, made_of, create_op, set_data_op, with_count, ended_or_counted, front_at, created_at, set_acl_at, op_at}
use Rattle.zk_jute.proofs.Numbers.{bind_ok, at_ok, either}
use Rattle.zk_newer_records.specs.declared.newer_record.Encoding.TheVariants as forms
use Rattle.zk_newer_records.specs.declared.operations.EncodedOp.{EncodedOp}
use Rattle.zk_newer_records.specs.Reading.{with_form, multi_of, check_alone, container_at, ttl_at, newer_part_at, bare_close, listing_close_at, close_at, written_at}

abbrev EndsAfter : Op × List ℕ → Type 0
EndsAfter x = IsOldCreate x.0 → x.1 ≡ []

abbrev pub EndsWritten : EncodedOp × List ℕ → Type 0
EndsWritten x = IsOldCreate x.0.op → x.1 ≡ []

-- a result of another kind is not a 3.3 create
made_other : {A : Type 0} (make : A → Op) (read : Result (A × List ℕ) JuteFault) (x : Op × List ℕ) → ((y : A) → IsOldCreate (make y) → ⊥) → made_of make read ≡ Ok x → EndsAfter x
made_other {A} make read x other e =
    let a = bind_ok {A = A × List ℕ} {B = Op × List ℕ} read (λ y. Ok (make y.0, y.1)) x e in
    at_ok EndsAfter (make a.0.0, a.0.1) x a.2 (λ old. absurd (other a.0.0 old))

made_form : {A : Type 0} (make : A → EncodedOp) (read : Result (A × List ℕ) JuteFault) (x : EncodedOp × List ℕ) → ((y : A) → IsOldCreate (make y).op → ⊥) → made_of make read ≡ Ok x → EndsWritten x
made_form {A} make read x other e =
    let a = bind_ok {A = A × List ℕ} {B = EncodedOp × List ℕ} read (λ y. Ok (make y.0, y.1)) x e in
    at_ok EndsWritten (make a.0.0, a.0.1) x a.2 (λ old. absurd (other a.0.0 old))

ended : (front : CreateTxnV0) (left : List ℕ) (x : Op × List ℕ) → ended_or_counted front left ≡ Ok x → EndsAfter x
unfolding ended_or_counted
ended front [] x e = at_ok EndsAfter (ops.CreateOld front.path front.content front.acl front.ephemeral, []) x e (λ old. refl)
ended front (b ∷ rest) x e = made_other (λ count. create_op (with_count front count)) (number_at w32 (b ∷ rest)) x (λ count old. old) e

created_ends : (bytes : List ℕ) (x : Op × List ℕ) → created_at bytes ≡ Ok x → EndsAfter x
unfolding created_at
created_ends bytes x e =
    let a = bind_ok {A = CreateTxnV0 × List ℕ} {B = Op × List ℕ} (front_at bytes) (λ front. ended_or_counted front.0 front.1) x e in
    ended a.0.0 a.0.1 x a.2

set_acl_ends : (bytes : List ℕ) (x : Op × List ℕ) → set_acl_at bytes ≡ Ok x → EndsAfter x
unfolding set_acl_at
set_acl_ends bytes x e =
    let a = bind_ok {A = List ℕ × List ℕ} {B = Op × List ℕ} (path_at bytes) (λ path. vector_at acl_at path.1 >>= λ acl. number_at w32 acl.1 >>= λ version. Ok (ops.SetAcl path.0 acl.0 version.0, version.1)) x e in
    let b = bind_ok {B = Op × List ℕ} (vector_at acl_at a.0.1) (λ acl. number_at w32 acl.1 >>= λ version. Ok (ops.SetAcl a.0.0 acl.0 version.0, version.1)) x a.2 in
    let c = bind_ok {A = ℤ × List ℕ} {B = Op × List ℕ} (number_at w32 b.0.1) (λ version. Ok (ops.SetAcl a.0.0 b.0.0 version.0, version.1)) x b.2 in
    at_ok EndsAfter (ops.SetAcl a.0.0 b.0.0 c.0.0, c.0.1) x c.2 (λ old. absurd old)

abbrev unknown : Result (Op × List ℕ) JuteFault
unknown = Err faults.Kind

abbrev known : Op × List ℕ → Result (Op × List ℕ) JuteFault
known x = Ok x

not_known : (x : Op × List ℕ) → unknown ≡ known x → ⊥
not_known x e = cc

op_ends : (kind : ℤ) (bytes : List ℕ) (x : Op × List ℕ) → op_at kind bytes ≡ Ok x → EndsAfter x
unfolding op_at
op_ends kind bytes x e =
    let P : Type 0 = EndsAfter x in
    either _ _ _ x P (λ _ h. created_ends bytes x h)
    (either _ _ _ x P (λ _ h. made_other ops.Delete (path_at bytes) x (λ y old. old) h)
    (either _ _ _ x P (λ _ h. made_other set_data_op (set_data_at bytes) x (λ y old. old) h)
    (either _ _ _ x P (λ _ h. set_acl_ends bytes x h)
    (either _ _ _ x P (λ _ h. made_other ops.Multi (vector_at part_at bytes) x (λ y old. old) h)
    (either _ _ _ x P (λ _ h. made_other ops.Error (number_at w32 bytes) x (λ y old. old) h)
    (either _ _ _ x P (λ _ h. made_other ops.OpenSession (number_at w32 bytes) x (λ y old. old) h)
    (either _ _ _ x P (λ _ h. at_ok EndsAfter (ops.CloseSession, bytes) x h (λ old. absurd old))
    (λ h. absurd (not_known x h))))))))) e

own_ends : (kind : ℤ) (bytes : List ℕ) (x : EncodedOp × List ℕ) → made_of (with_form forms.Own) (op_at kind bytes) ≡ Ok x → EndsWritten x
own_ends kind bytes x e =
    let a = bind_ok {A = Op × List ℕ} {B = EncodedOp × List ℕ} (op_at kind bytes) (λ y. Ok (with_form forms.Own y.0, y.1)) x e in
    at_ok EndsWritten (with_form forms.Own a.0.0, a.0.1) x a.2 (op_ends kind bytes a.0 a.1)

ttl_ends : (bytes : List ℕ) (x : EncodedOp × List ℕ) → ttl_at bytes ≡ Ok x → EndsWritten x
unfolding ttl_at
ttl_ends bytes x e =
    let a = bind_ok {A = CreateTxn × List ℕ} {B = EncodedOp × List ℕ} (container_at bytes) (λ body. number_at w64 body.1 >>= λ ttl. Ok (with_form (forms.Ttl ttl.0) (create_op body.0), ttl.1)) x e in
    let b = bind_ok {A = ℤ × List ℕ} {B = EncodedOp × List ℕ} (number_at w64 a.0.1) (λ ttl. Ok (with_form (forms.Ttl ttl.0) (create_op a.0.0), ttl.1)) x a.2 in
    at_ok EndsWritten (with_form (forms.Ttl b.0.0) (create_op a.0.0), b.0.1) x b.2 (λ old. absurd old)

bare_ends : (bytes : List ℕ) (x : EncodedOp × List ℕ) → bare_close bytes ≡ Ok x → EndsWritten x
bare_ends bytes x e = at_ok EndsWritten (with_form forms.Own ops.CloseSession, bytes) x e (λ old. absurd old)

listing_ends : (bytes : List ℕ) (x : EncodedOp × List ℕ) → listing_close_at bytes ≡ Ok x → EndsWritten x
unfolding listing_close_at
listing_ends bytes x e = made_form (λ listed. with_form (forms.ClosePaths listed) ops.CloseSession) (vector_at path_at bytes) x (λ y old. old) e

close_ends : (bytes : List ℕ) (x : EncodedOp × List ℕ) → close_at bytes ≡ Ok x → EndsWritten x
unfolding close_at
close_ends bytes x e =
    let P : Type 0 = EndsWritten x in
    either _ _ _ x P (λ _ h. bare_ends bytes x h)
    (either _ _ _ x P (λ _ h.
    let a = bind_ok {A = ℤ × List ℕ} {B = EncodedOp × List ℕ} (number_at w32 bytes) (λ version. if int_eq version.0 (pos 2) then bare_close bytes else listing_close_at bytes) x h in
    either _ _ _ x P (λ _ k. bare_ends bytes x k) (λ k. listing_ends bytes x k) a.2)
    (λ h. listing_ends bytes x h)) e

pub old_ends : (kind : ℤ) (bytes : List ℕ) (x : EncodedOp × List ℕ) → written_at kind bytes ≡ Ok x → EndsWritten x
unfolding written_at
old_ends kind bytes x e =
    let P : Type 0 = EndsWritten x in
    either _ _ _ x P (λ _ h. made_form check_alone (check_at bytes) x (λ y old. old) h)
    (either _ _ _ x P (λ _ h. made_form multi_of (vector_at newer_part_at bytes) x (λ y old. old) h)
    (either _ _ _ x P (λ _ h. made_form (λ body. with_form forms.Create2 (create_op body)) (create_at bytes) x (λ y old. old) h)
    (either _ _ _ x P (λ _ h. made_form (λ body. with_form forms.Reconfig (set_data_op body)) (set_data_at bytes) x (λ y old. old) h)
    (either _ _ _ x P (λ _ h. made_form (λ body. with_form forms.Container (create_op body)) (container_at bytes) x (λ y old. old) h)
    (either _ _ _ x P (λ _ h. made_form (λ path. with_form forms.DeletedContainer (ops.Delete path)) (path_at bytes) x (λ y old. old) h)
    (either _ _ _ x P (λ _ h. ttl_ends bytes x h)
    (either _ _ _ x P (λ _ h. close_ends bytes x h)
    (λ h. own_ends kind bytes x h)))))))) e
