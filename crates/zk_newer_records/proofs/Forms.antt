-- Operations and their encodings: reading is the inverse of writing.
use Rattle.std.proofs.Common.{◌≡◌, ℕ, ℤ, pos, negsuc, Bool, true, false, List, [], ◌∷◌, ◌++◌, length, map, Option, Some, None, Result, Ok, refl, sym, ap, subst, ◌∙◌, append_assoc, lit<}
use Rattle.std.specs.Prelude.{FitsSigned, if◌then◌else◌}
use Rattle.std.specs.Int.{w32, w64}
use Rattle.std.specs.Ordering.{int_eq}
use Rattle.std.proofs.lemmas.Bool.Decides.{Decides-int_eq}
use Rattle.std.proofs.lemmas.List.{append-nil}
use Rattle.zk_table.specs.declared.txn.Op.{Op}
use Rattle.zk_table.specs.declared.txn.Op.TheVariants as ops
use Rattle.zk_table.specs.declared.sub.Sub.{Sub}
use Rattle.zk_table.specs.declared.sub.Sub.TheVariants as subs
use Rattle.zk_jute.specs.declared.bodies.CreateTxn.{CreateTxn}
use Rattle.zk_jute.specs.declared.fault.JuteFault.{JuteFault}
use Rattle.zk_records.specs.Records.{long, ustring, vector, kind_of, body_of, IsOp, AreElements, EndsByItself}
use Rattle.zk_jute.specs.Reading.{◌>>=◌, number_at, vector_at, check_at, made_of, create_op, set_data_op, op_at}
use Rattle.zk_jute.proofs.Numbers.{IsBytes, TakesFront, TakesFront-then, first_read, bind_ok, at_ok, made_takes, either}
use Rattle.zk_jute.proofs.Texts.{long_field, path_field}
use Rattle.zk_jute.proofs.Creates.{create_field, set_data_field}
use Rattle.zk_jute.proofs.Ops.{op_takes, op_again, old_again, kind_fits}
use Rattle.zk_newer_records.specs.declared.newer_record.Encoding.{Encoding}
use Rattle.zk_newer_records.specs.declared.newer_record.Encoding.TheVariants as forms
use Rattle.zk_newer_records.specs.declared.operations.EncodedOp.{EncodedOp}
use Rattle.zk_newer_records.specs.declared.parts.NewerPart.{NewerPart}
use Rattle.zk_newer_records.specs.declared.parts.PartEncoding.{PartEncoding}
use Rattle.zk_newer_records.specs.NewerRecords.{written_kind, written_body, IsEncoding, IsPlainOp, IsDigest, digest_bytes, newer_part, paired, IsNewerPart}
use Rattle.zk_newer_records.specs.Reading.{plain_create, sub_of, form_of, with_form, multi_of, check_alone, ttl_at, newer_part_at, written_at}
use Rattle.zk_newer_records.proofs.Containers.{container_txn, IsContainerTxn, container_field, IsSum}
use Rattle.zk_newer_records.proofs.MultiParts.{check_takes, check_again, loose_fits, newer_parts_field}
use Rattle.zk_newer_records.proofs.Closing.{IsReadOp, is_op, close_takes, bare_again, list_again}
use Rattle.zk_newer_records.proofs.Turns.{paired_again, as_many_forms, subs_paired, forms_paired}

-- ---- what is read

at_kind : (kind known : ℤ) (bytes : List ℕ) (x : EncodedOp × List ℕ) → int_eq kind known ≡ true → IsReadOp bytes known x → IsReadOp bytes kind x
at_kind kind known bytes x same is = subst (λ (k : ℤ). IsReadOp bytes k x) (sym ((Decides-int_eq kind known).0 same)) is

alone_takes : (bytes : List ℕ) (x : EncodedOp × List ℕ) → IsBytes bytes → made_of check_alone (check_at bytes) ≡ Ok x → IsReadOp bytes (pos 13) x
alone_takes bytes x fits e =
    let a = bind_ok {A = Sub × List ℕ} {B = EncodedOp × List ℕ} (check_at bytes) (λ y. Ok (check_alone y.0, y.1)) x e in
    let made : EncodedOp × List ℕ = (check_alone a.0.0, a.0.1) in
    at_ok (is_op bytes (pos 13)) made x a.2
    (check_takes bytes a.0 (λ (y : Sub × List ℕ). IsReadOp bytes (pos 13) (check_alone y.0, y.1)) fits a.1 (λ path version rest took is number. record { took = took; typed = refl; form = (is, number) }))

multi_takes : (bytes : List ℕ) (x : EncodedOp × List ℕ) → IsBytes bytes → made_of multi_of (vector_at newer_part_at bytes) ≡ Ok x → IsReadOp bytes (pos 14) x
multi_takes bytes x fits e =
    made_takes _ _ _ newer_parts_field multi_of bytes x (is_op bytes (pos 14)) fits e
    (λ read rest took is.
    let same : read ≡ paired (map sub_of read) (map form_of read) = sym (paired_again read) in
    record {
      took = subst (λ (parts : List NewerPart). TakesFront bytes (vector newer_part parts) rest) same took;
      typed = refl;
      form = record { each = subst (AreElements IsNewerPart) same is; as_many = as_many_forms read };
    })

-- a container's create, whose node no session owns
made_loose : (bytes : List ℕ) (body : CreateTxn) (rest : List ℕ) → TakesFront bytes (container_txn body) rest → IsContainerTxn body → IsReadOp bytes (pos 19) (with_form forms.Container (create_op body), rest)
made_loose bytes body rest took is =
    subst (λ (flag : Bool). IsReadOp bytes (pos 19) (with_form forms.Container (ops.Create body.front.path body.front.content body.front.acl flag body.count), rest)) (sym is.persistent)
    (record { took = took; typed = refl; form = (is.front.0, is.front.1, is.front.2, is.count) })

ttl_takes : (bytes : List ℕ) (x : EncodedOp × List ℕ) → IsBytes bytes → ttl_at bytes ≡ Ok x → IsReadOp bytes (pos 21) x
unfolding ttl_at
ttl_takes bytes x fits e =
    let a = first_read _ _ _ container_field bytes (λ body. number_at w64 body.1 >>= λ ttl. Ok (with_form (forms.Ttl ttl.0) (create_op body.0), ttl.1)) x fits e in
    let b = first_read _ _ _ long_field a.got.1 (λ ttl. Ok (with_form (forms.Ttl ttl.0) (create_op a.got.0), ttl.1)) x a.took.rest_fits a.goes in
    let body = a.got.0 in
    let all = TakesFront-then bytes (container_txn body) a.got.1 (long b.got.0) b.got.1 a.took b.took in
    let made : EncodedOp × List ℕ = (with_form (forms.Ttl b.got.0) (create_op body), b.got.1) in
    at_ok (is_op bytes (pos 21)) made x b.goes
    (subst (λ (flag : Bool). IsReadOp bytes (pos 21) (with_form (forms.Ttl b.got.0) (ops.Create body.front.path body.front.content body.front.acl flag body.count), b.got.1)) (sym a.fits.persistent)
    (record { took = all; typed = refl; form = ((a.fits.front.0, a.fits.front.1, a.fits.front.2, a.fits.count), b.fits) }))

no_multi : int_eq (pos 14) (pos 14) ≡ false → ⊥
no_multi e = cc

-- an operation with another type than a multi's is not a multi
plain_op : (op : Op) (kind : ℤ) → IsOp op → kind_of op ≡ kind → int_eq kind (pos 14) ≡ false → IsPlainOp op
plain_op (ops.Create path content acl ephemeral count) kind is same other = is
plain_op (ops.CreateOld path content acl ephemeral) kind is same other = is
plain_op (ops.Delete path) kind is same other = is
plain_op (ops.SetData path content version) kind is same other = is
plain_op (ops.SetAcl path acl version) kind is same other = is
plain_op (ops.OpenSession timeout) kind is same other = is
plain_op ops.CloseSession kind is same other = is
plain_op (ops.Error code) kind is same other = is
plain_op (ops.Multi parts) kind is same other = absurd (no_multi (subst (λ (k : ℤ). int_eq k (pos 14) ≡ false) (sym same) other))

own_takes : (kind : ℤ) (bytes : List ℕ) (x : EncodedOp × List ℕ) → int_eq kind (pos 14) ≡ false → IsBytes bytes → made_of (with_form forms.Own) (op_at kind bytes) ≡ Ok x → IsReadOp bytes kind x
own_takes kind bytes x other fits e =
    let a = bind_ok {A = Op × List ℕ} {B = EncodedOp × List ℕ} (op_at kind bytes) (λ y. Ok (with_form forms.Own y.0, y.1)) x e in
    let body = op_takes kind bytes a.0 fits a.1 in
    let made : EncodedOp × List ℕ = (with_form forms.Own a.0.0, a.0.1) in
    at_ok (is_op bytes kind) made x a.2 (record { took = body.took; typed = body.typed; form = plain_op a.0.0 kind body.fits body.typed other })

-- which of two readers returned the result
split : {A : Type 0} (b : Bool) (first second : Result A JuteFault) (x : A) (P : Type 0) → ((b ≡ true) → first ≡ Ok x → P) → ((b ≡ false) → second ≡ Ok x → P) → (if b then first else second) ≡ Ok x → P
split true first second x P here there e = here refl e
split false first second x P here there e = there refl e

pub written_takes : (kind : ℤ) (bytes : List ℕ) (x : EncodedOp × List ℕ) → IsBytes bytes → written_at kind bytes ≡ Ok x → IsReadOp bytes kind x
unfolding written_at
written_takes kind bytes x fits e =
    let P : Type 0 = IsReadOp bytes kind x in
    either _ _ _ x P (λ same h. at_kind kind (pos 13) bytes x same (alone_takes bytes x fits h))
    (split _ _ _ x P (λ same h. at_kind kind (pos 14) bytes x same (multi_takes bytes x fits h))
    (λ other. either _ _ _ x P (λ same h. at_kind kind (pos 15) bytes x same (made_takes _ _ _ create_field (λ body. with_form forms.Create2 (create_op body)) bytes x (is_op bytes (pos 15)) fits h (λ body rest took is. record { took = took; typed = refl; form = is })))
    (either _ _ _ x P (λ same h. at_kind kind (pos 16) bytes x same (made_takes _ _ _ set_data_field (λ body. with_form forms.Reconfig (set_data_op body)) bytes x (is_op bytes (pos 16)) fits h (λ body rest took is. record { took = took; typed = refl; form = is })))
    (either _ _ _ x P (λ same h. at_kind kind (pos 19) bytes x same (made_takes _ _ _ container_field (λ body. with_form forms.Container (create_op body)) bytes x (is_op bytes (pos 19)) fits h (λ body rest took is. made_loose bytes body rest took is)))
    (either _ _ _ x P (λ same h. at_kind kind (pos 20) bytes x same (made_takes _ _ _ path_field (λ path. with_form forms.DeletedContainer (ops.Delete path)) bytes x (is_op bytes (pos 20)) fits h (λ path rest took is. record { took = took; typed = refl; form = is })))
    (either _ _ _ x P (λ same h. at_kind kind (pos 21) bytes x same (ttl_takes bytes x fits h))
    (either _ _ _ x P (λ same h. at_kind kind (negsuc 10) bytes x same (close_takes bytes x fits h))
    (λ h. own_takes kind bytes x other fits h)))))))) e

-- ---- reading what was written

plain_again : (op : Op) (rest : List ℕ) → IsOp op → EndsByItself op → made_of (with_form forms.Own) (op_at (kind_of op) (body_of op ++ rest)) ≡ Ok (with_form forms.Own op, rest)
plain_again op rest is ends = rw (op_again op rest is ends) refl

own_again : (op : Op) (digest : Option ℤ) → IsPlainOp op → IsDigest op digest → IsSum digest → written_at (kind_of op) (body_of op ++ digest_bytes digest) ≡ Ok (with_form forms.Own op, digest_bytes digest)
unfolding written_at
own_again (ops.Create path content acl ephemeral count) digest is may sum = plain_again (ops.Create path content acl ephemeral count) (digest_bytes digest) is tt
own_again (ops.CreateOld path content acl ephemeral) None is may sum = ap (λ (bytes : List ℕ). made_of (with_form forms.Own) (op_at (pos 1) bytes)) (append-nil (body_of (ops.CreateOld path content acl ephemeral))) ∙ rw (old_again path content acl ephemeral is) refl
own_again (ops.CreateOld path content acl ephemeral) (Some digest) is may sum = absurd may
own_again (ops.Delete path) digest is may sum = plain_again (ops.Delete path) (digest_bytes digest) is tt
own_again (ops.SetData path content version) digest is may sum = plain_again (ops.SetData path content version) (digest_bytes digest) is tt
own_again (ops.SetAcl path acl version) digest is may sum = plain_again (ops.SetAcl path acl version) (digest_bytes digest) is tt
own_again (ops.OpenSession timeout) digest is may sum = plain_again (ops.OpenSession timeout) (digest_bytes digest) is tt
own_again ops.CloseSession digest is may sum = bare_again digest sum
own_again (ops.Error code) digest is may sum = plain_again (ops.Error code) (digest_bytes digest) is tt
own_again (ops.Multi parts) digest is may sum = absurd is

create2_again : (op : Op) (rest : List ℕ) → IsEncoding op forms.Create2 → written_at (pos 15) (body_of op ++ rest) ≡ Ok (with_form forms.Create2 op, rest)
unfolding written_at
create2_again (ops.Create path content acl ephemeral count) rest is = rw (create_field.again (plain_create path content acl ephemeral count) rest is) refl
create2_again (ops.CreateOld path content acl ephemeral) rest is = absurd is
create2_again (ops.Delete path) rest is = absurd is
create2_again (ops.SetData path content version) rest is = absurd is
create2_again (ops.SetAcl path acl version) rest is = absurd is
create2_again (ops.OpenSession timeout) rest is = absurd is
create2_again ops.CloseSession rest is = absurd is
create2_again (ops.Error code) rest is = absurd is
create2_again (ops.Multi parts) rest is = absurd is

container_again : (op : Op) (rest : List ℕ) → IsEncoding op forms.Container → written_at (pos 19) (written_body op forms.Container ++ rest) ≡ Ok (with_form forms.Container op, rest)
unfolding written_at
container_again (ops.Create path content acl true count) rest is = absurd is
container_again (ops.Create path content acl false count) rest is = rw (container_field.again (plain_create path content acl false count) rest (loose_fits path content acl count is.0 (is.0, is.1, is.2) is.3)) refl
container_again (ops.CreateOld path content acl ephemeral) rest is = absurd is
container_again (ops.Delete path) rest is = absurd is
container_again (ops.SetData path content version) rest is = absurd is
container_again (ops.SetAcl path acl version) rest is = absurd is
container_again (ops.OpenSession timeout) rest is = absurd is
container_again ops.CloseSession rest is = absurd is
container_again (ops.Error code) rest is = absurd is
container_again (ops.Multi parts) rest is = absurd is

ttl_again : (op : Op) (ttl : ℤ) (rest : List ℕ) → IsEncoding op (forms.Ttl ttl) → written_at (pos 21) (written_body op (forms.Ttl ttl) ++ rest) ≡ Ok (with_form (forms.Ttl ttl) op, rest)
unfolding written_at ttl_at
ttl_again (ops.Create path content acl true count) ttl rest is = absurd is.0
ttl_again (ops.Create path content acl false count) ttl rest is =
    let body : CreateTxn = plain_create path content acl false count in
    let fits : IsContainerTxn body = loose_fits path content acl count is.0.0 (is.0.0, is.0.1, is.0.2) is.0.3 in
    ap ttl_at (append_assoc (container_txn body) (long ttl) rest)
    ∙ rw (container_field.again body (long ttl ++ rest) fits, long_field.again ttl rest is.1) refl
ttl_again (ops.CreateOld path content acl ephemeral) ttl rest is = absurd is.0
ttl_again (ops.Delete path) ttl rest is = absurd is.0
ttl_again (ops.SetData path content version) ttl rest is = absurd is.0
ttl_again (ops.SetAcl path acl version) ttl rest is = absurd is.0
ttl_again (ops.OpenSession timeout) ttl rest is = absurd is.0
ttl_again ops.CloseSession ttl rest is = absurd is.0
ttl_again (ops.Error code) ttl rest is = absurd is.0
ttl_again (ops.Multi parts) ttl rest is = absurd is.0

deleted_again : (op : Op) (rest : List ℕ) → IsEncoding op forms.DeletedContainer → written_at (pos 20) (body_of op ++ rest) ≡ Ok (with_form forms.DeletedContainer op, rest)
unfolding written_at
deleted_again (ops.Delete path) rest is = rw (path_field.again path rest is) refl
deleted_again (ops.Create path content acl ephemeral count) rest is = absurd is
deleted_again (ops.CreateOld path content acl ephemeral) rest is = absurd is
deleted_again (ops.SetData path content version) rest is = absurd is
deleted_again (ops.SetAcl path acl version) rest is = absurd is
deleted_again (ops.OpenSession timeout) rest is = absurd is
deleted_again ops.CloseSession rest is = absurd is
deleted_again (ops.Error code) rest is = absurd is
deleted_again (ops.Multi parts) rest is = absurd is

reconfig_again : (op : Op) (rest : List ℕ) → IsEncoding op forms.Reconfig → written_at (pos 16) (body_of op ++ rest) ≡ Ok (with_form forms.Reconfig op, rest)
unfolding written_at
reconfig_again (ops.SetData path content version) rest is = rw (set_data_field.again (record { path = path; content = content; version = version }) rest is) refl
reconfig_again (ops.Create path content acl ephemeral count) rest is = absurd is
reconfig_again (ops.CreateOld path content acl ephemeral) rest is = absurd is
reconfig_again (ops.Delete path) rest is = absurd is
reconfig_again (ops.SetAcl path acl version) rest is = absurd is
reconfig_again (ops.OpenSession timeout) rest is = absurd is
reconfig_again ops.CloseSession rest is = absurd is
reconfig_again (ops.Error code) rest is = absurd is
reconfig_again (ops.Multi parts) rest is = absurd is

-- the one check of a multi
only_again : (parts : List Sub) (rest : List ℕ) → IsEncoding (ops.Multi parts) forms.CheckAlone → written_at (pos 13) (written_body (ops.Multi parts) forms.CheckAlone ++ rest) ≡ Ok (with_form forms.CheckAlone (ops.Multi parts), rest)
unfolding written_at
only_again [] rest is = absurd is
only_again (subs.Check path version ∷ []) rest is = rw (check_again path version rest is.0 is.1) refl
only_again (subs.Check path version ∷ other ∷ more) rest is = absurd is
only_again (subs.Create path content acl ephemeral count ∷ more) rest is = absurd is
only_again (subs.Delete path ∷ more) rest is = absurd is
only_again (subs.SetData path content version ∷ more) rest is = absurd is
only_again (subs.Error code ∷ more) rest is = absurd is

alone_again : (op : Op) (rest : List ℕ) → IsEncoding op forms.CheckAlone → written_at (pos 13) (written_body op forms.CheckAlone ++ rest) ≡ Ok (with_form forms.CheckAlone op, rest)
alone_again (ops.Multi parts) rest is = only_again parts rest is
alone_again (ops.Create path content acl ephemeral count) rest is = absurd is
alone_again (ops.CreateOld path content acl ephemeral) rest is = absurd is
alone_again (ops.Delete path) rest is = absurd is
alone_again (ops.SetData path content version) rest is = absurd is
alone_again (ops.SetAcl path acl version) rest is = absurd is
alone_again (ops.OpenSession timeout) rest is = absurd is
alone_again ops.CloseSession rest is = absurd is
alone_again (ops.Error code) rest is = absurd is

paths_again : (op : Op) (listed : List (List ℕ)) (rest : List ℕ) → IsEncoding op (forms.ClosePaths listed) → written_at (negsuc 10) (vector ustring listed ++ rest) ≡ Ok (with_form (forms.ClosePaths listed) op, rest)
unfolding written_at
paths_again ops.CloseSession listed rest is = list_again listed rest is.1
paths_again (ops.Create path content acl ephemeral count) listed rest is = absurd is.0
paths_again (ops.CreateOld path content acl ephemeral) listed rest is = absurd is.0
paths_again (ops.Delete path) listed rest is = absurd is.0
paths_again (ops.SetData path content version) listed rest is = absurd is.0
paths_again (ops.SetAcl path acl version) listed rest is = absurd is.0
paths_again (ops.OpenSession timeout) listed rest is = absurd is.0
paths_again (ops.Error code) listed rest is = absurd is.0
paths_again (ops.Multi parts) listed rest is = absurd is.0

pub both_paired : (subs : List Sub) (written : List PartEncoding) → length written ≡ length subs → multi_of (paired subs written) ≡ with_form (forms.Parts written) (ops.Multi subs)
both_paired subs written same =
    ap (λ (all : List Sub). with_form (forms.Parts (map form_of (paired subs written))) (ops.Multi all)) (subs_paired subs written same)
    ∙ ap (λ (all : List PartEncoding). with_form (forms.Parts all) (ops.Multi subs)) (forms_paired subs written same)

parts_again : (op : Op) (written : List PartEncoding) (rest : List ℕ) → IsEncoding op (forms.Parts written) → written_at (pos 14) (written_body op (forms.Parts written) ++ rest) ≡ Ok (with_form (forms.Parts written) op, rest)
unfolding written_at
parts_again (ops.Multi subs) written rest is =
    rw (newer_parts_field.again (paired subs written) rest is.each) (ap (λ (x : EncodedOp). Ok (x, rest)) (both_paired subs written is.as_many))
parts_again (ops.Create path content acl ephemeral count) written rest is = absurd is
parts_again (ops.CreateOld path content acl ephemeral) written rest is = absurd is
parts_again (ops.Delete path) written rest is = absurd is
parts_again (ops.SetData path content version) written rest is = absurd is
parts_again (ops.SetAcl path acl version) written rest is = absurd is
parts_again (ops.OpenSession timeout) written rest is = absurd is
parts_again ops.CloseSession written rest is = absurd is
parts_again (ops.Error code) written rest is = absurd is

pub written_again : (op : Op) (form : Encoding) (digest : Option ℤ) → IsEncoding op form → IsDigest op digest → IsSum digest → written_at (written_kind op form) (written_body op form ++ digest_bytes digest) ≡ Ok (with_form form op, digest_bytes digest)
written_again op forms.Own digest is may sum = own_again op digest is may sum
written_again op forms.Create2 digest is may sum = create2_again op (digest_bytes digest) is
written_again op forms.Container digest is may sum = container_again op (digest_bytes digest) is
written_again op (forms.Ttl ttl) digest is may sum = ttl_again op ttl (digest_bytes digest) is
written_again op forms.DeletedContainer digest is may sum = deleted_again op (digest_bytes digest) is
written_again op forms.Reconfig digest is may sum = reconfig_again op (digest_bytes digest) is
written_again op forms.CheckAlone digest is may sum = alone_again op (digest_bytes digest) is
written_again op (forms.ClosePaths listed) digest is may sum = paths_again op listed (digest_bytes digest) is
written_again op (forms.Parts written) digest is may sum = parts_again op written (digest_bytes digest) is

pub written_kind_fits : (op : Op) (form : Encoding) → FitsSigned w32 (written_kind op form)
written_kind_fits op forms.Own = kind_fits op
written_kind_fits op forms.Create2 = record { sfits = lit< tt }
written_kind_fits op forms.Container = record { sfits = lit< tt }
written_kind_fits op (forms.Ttl ttl) = record { sfits = lit< tt }
written_kind_fits op forms.DeletedContainer = record { sfits = lit< tt }
written_kind_fits op forms.Reconfig = record { sfits = lit< tt }
written_kind_fits op forms.CheckAlone = record { sfits = lit< tt }
written_kind_fits op (forms.ClosePaths listed) = record { sfits = lit< tt }
written_kind_fits op (forms.Parts written) = record { sfits = lit< tt }
