-- Whole records: the result's record is what was read, and a record is read back.
use Rattle.std.proofs.Common.{◌≡◌, ◌≢◌, ℕ, ℤ, pos, Bool, true, false, cond, List, [], ◌++◌, Option, Some, None, Result, Ok, Err, refl, sym, ap, subst, ◌∙◌, append_assoc, length, arith, length-append}
use Rattle.std.specs.Prelude.{IfOk}
use Rattle.zk_table.specs.declared.txn.Op.{Op}
use Rattle.zk_table.specs.declared.txn.Op.TheVariants as ops
use Rattle.zk_jute.specs.declared.fault.JuteFault.{JuteFault}
use Rattle.zk_jute.specs.declared.reading.Header.{Header}
use Rattle.zk_records.specs.Records.{int, long, IsOldCreate}
use Rattle.zk_jute.specs.Reading.{◌>>=◌}
use Rattle.zk_jute.proofs.Numbers.{IsBytes, TakesFront-then, first_read, bind_ok, at_ok}
use Rattle.zk_jute.proofs.Whole.{header, IsHeader, header_field}
use Rattle.zk_newer_records.specs.declared.fault.NewerFault.{NewerFault}
use Rattle.zk_newer_records.specs.declared.fault.NewerFault.TheVariants as newer_faults
use Rattle.zk_newer_records.specs.declared.newer_record.NewerRecord.{NewerRecord}
use Rattle.zk_newer_records.specs.declared.operations.EncodedOp.{EncodedOp}
use Rattle.zk_newer_records.specs.NewerRecords.{written_kind, written_body, digest_bytes, IsDigest, newer_record, IsSpelled, IsNewer, tells_why}
use Rattle.zk_newer_records.specs.Reading.{written_at, digest_at, spelled_at, with_reason, newer_of, Answers}
use Rattle.zk_newer_records.proofs.Containers.{IsSum, digest_takes, digest_again}
use Rattle.zk_newer_records.proofs.Forms.{written_takes, written_again, written_kind_fits}
use Rattle.zk_newer_records.proofs.OldCreates.{old_ends}

-- ---- digests after operations

some_bytes : (sum : ℤ) → length (digest_bytes (Some sum)) ≡ 0 → ⊥
some_bytes sum e = omega (arith, length-append (int (pos 2)) (long sum), e)

abbrev IsOld : Op → Type 0
IsOld op = IsOldCreate op

no_digest : (digest : ℤ) → Some digest ≡ None → ⊥
no_digest digest e = cc

-- nothing follows the last of the bytes
nothing_ends : (digest : Option ℤ) → digest_bytes digest ≡ [] → digest ≡ None
nothing_ends None e = refl
nothing_ends (Some sum) e = absurd (some_bytes sum (ap length e))

may_follow : (op : Op) (digest : Option ℤ) → IsSum digest → (IsOld op → digest ≡ None) → IsDigest op digest
may_follow op None sum none = tt
may_follow (ops.CreateOld path content acl ephemeral) (Some digest) sum none = absurd (no_digest digest (none tt))
may_follow (ops.Create path content acl ephemeral count) (Some digest) sum none = sum
may_follow (ops.Delete path) (Some digest) sum none = sum
may_follow (ops.SetData path content version) (Some digest) sum none = sum
may_follow (ops.SetAcl path acl version) (Some digest) sum none = sum
may_follow (ops.OpenSession timeout) (Some digest) sum none = sum
may_follow ops.CloseSession (Some digest) sum none = sum
may_follow (ops.Error code) (Some digest) sum none = sum
may_follow (ops.Multi parts) (Some digest) sum none = sum

pub is_sum : (op : Op) (digest : Option ℤ) → IsDigest op digest → IsSum digest
is_sum op None is = tt
is_sum (ops.CreateOld path content acl ephemeral) (Some digest) is = absurd is
is_sum (ops.Create path content acl ephemeral count) (Some digest) is = is
is_sum (ops.Delete path) (Some digest) is = is
is_sum (ops.SetData path content version) (Some digest) is = is
is_sum (ops.SetAcl path acl version) (Some digest) is = is
is_sum (ops.OpenSession timeout) (Some digest) is = is
is_sum ops.CloseSession (Some digest) is = is
is_sum (ops.Error code) (Some digest) is = is
is_sum (ops.Multi parts) (Some digest) is = is

-- ---- what is read

pub spelled_takes : (bytes : List ℕ) (newer : NewerRecord) → IsBytes bytes → spelled_at bytes ≡ Ok newer → IsSpelled bytes newer
unfolding spelled_at newer_record
spelled_takes bytes newer fits e =
    let a = first_read _ _ _ header_field bytes (λ header. written_at header.0.kind header.1 >>= λ written. digest_at written.1 >>= λ digest. Ok (record { txn = record { session = header.0.session; cxid = header.0.cxid; zxid = header.0.zxid; time = header.0.time; op = written.0.op }; form = written.0.form; digest = digest })) newer fits e in
    let h = a.got.0 in
    let b = bind_ok {A = EncodedOp × List ℕ} {B = NewerRecord} (written_at h.kind a.got.1) (λ written. digest_at written.1 >>= λ digest. Ok (record { txn = record { session = h.session; cxid = h.cxid; zxid = h.zxid; time = h.time; op = written.0.op }; form = written.0.form; digest = digest })) newer a.goes in
    let op = b.0.0.op in
    let form = b.0.0.form in
    let read = written_takes h.kind a.got.1 b.0 a.took.rest_fits b.1 in
    let c = bind_ok {A = Option ℤ} {B = NewerRecord} (digest_at b.0.1) (λ digest. Ok (record { txn = record { session = h.session; cxid = h.cxid; zxid = h.zxid; time = h.time; op = op }; form = form; digest = digest })) newer b.2 in
    let tail = digest_takes b.0.1 c.0 read.took.rest_fits c.1 in
    let none : IsOld op → c.0 ≡ None = λ old. nothing_ends c.0 (sym tail.0 ∙ old_ends h.kind a.got.1 b.0 b.1 old) in
    let both = TakesFront-then bytes (header h) a.got.1 (written_body op form) b.0.1 a.took read.took in
    let typed = subst (λ (k : ℤ). bytes ≡ header (record { session = h.session; cxid = h.cxid; zxid = h.zxid; time = h.time; kind = k }) ++ written_body op form ++ b.0.1) (sym read.typed) both.parts in
    let spelled = subst (λ (rest : List ℕ). bytes ≡ header (record { session = h.session; cxid = h.cxid; zxid = h.zxid; time = h.time; kind = written_kind op form }) ++ written_body op form ++ rest) tail.0 typed in
    let made : NewerRecord = record { txn = record { session = h.session; cxid = h.cxid; zxid = h.zxid; time = h.time; op = op }; form = form; digest = c.0 } in
    at_ok (IsSpelled bytes) made newer c.2 (record { session = a.fits.session; cxid = a.fits.cxid; zxid = a.fits.zxid; time = a.fits.time; form = read.form; digest = may_follow op c.0 tail.1 none; spelled = spelled })

-- ---- reading what was written

pub spelled_again : (bytes : List ℕ) (newer : NewerRecord) → IsSpelled bytes newer → spelled_at bytes ≡ Ok newer
unfolding spelled_at newer_record
spelled_again bytes newer is =
    let txn = newer.txn in
    let kind = written_kind txn.op newer.form in
    let h : Header = record { session = txn.session; cxid = txn.cxid; zxid = txn.zxid; time = txn.time; kind = kind } in
    let is_header : IsHeader h = record { session = is.session; cxid = is.cxid; zxid = is.zxid; time = is.time; kind = written_kind_fits txn.op newer.form } in
    let body = written_body txn.op newer.form in
    let tail = digest_bytes newer.digest in
    let sum = is_sum txn.op newer.digest is.digest in
    ap spelled_at (is.spelled ∙ append_assoc (header h) body tail)
    ∙ rw (header_field.again h (body ++ tail) is_header, written_again txn.op newer.form newer.digest is.form is.digest sum, digest_again newer.digest sum) refl

abbrev done_newer : NewerRecord → Result NewerRecord JuteFault
done_newer newer = Ok newer

pub newer_ones_are_of_one : (bytes : List ℕ) (first second : NewerRecord) → IsSpelled bytes first → IsSpelled bytes second → first ≡ second
newer_ones_are_of_one bytes first second is other =
    let same : done_newer first ≡ done_newer second = sym (spelled_again bytes first is) ∙ spelled_again bytes second other in
    cc

-- ---- with the error code of a failed multi

abbrev done : NewerRecord → Result NewerRecord NewerFault
done newer = Ok newer

told : (b : Bool) (newer found : NewerRecord) → cond b (done newer) (Err newer_faults.Reasonless) ≡ done found → (b ≡ true) × (newer ≡ found)
told true newer found e = (refl, cc)
told false newer found e = absurd cc

is_newer : (bytes : List ℕ) (newer : NewerRecord) (read : Result NewerRecord JuteFault) → IsBytes bytes → spelled_at bytes ≡ read → with_reason read ≡ done newer → IsNewer bytes newer
is_newer bytes newer (Ok found) fits was e =
    let t = told (tells_why found) found newer e in
    subst (λ (n : NewerRecord). IsNewer bytes n) t.1 (record { written = spelled_takes bytes found fits was; tells = t.0 })
is_newer bytes newer (Err fault) fits was e = absurd cc

pub is_found : (bytes : List ℕ) (result : Result NewerRecord NewerFault) → IsBytes bytes → Answers result (newer_of bytes) → IfOk result (λ newer. IsNewer bytes newer)
is_found bytes (Ok newer) fits given = is_newer bytes newer (spelled_at bytes) fits refl given
is_found bytes (Err fault) fits given = tt

pub newer_again : (bytes : List ℕ) (newer : NewerRecord) → IsNewer bytes newer → newer_of bytes ≡ Ok newer
newer_again bytes newer is = rw (spelled_again bytes newer is.written, is.tells) refl

not_told : (b : Bool) (newer : NewerRecord) → b ≢ true → cond b (done newer) (Err newer_faults.Reasonless) ≡ Err newer_faults.Reasonless
not_told true newer other = absurd (other refl)
not_told false newer other = refl

pub reasonless_again : (bytes : List ℕ) (newer : NewerRecord) → IsSpelled bytes newer → tells_why newer ≢ true → newer_of bytes ≡ Err newer_faults.Reasonless
reasonless_again bytes newer is other = ap with_reason (spelled_again bytes newer is) ∙ not_told (tells_why newer) newer other

untold : (b : Bool) (newer : NewerRecord) → cond b (done newer) (Err newer_faults.Reasonless) ≡ Err newer_faults.Reasonless → b ≢ true
untold true newer e = absurd cc
untold false newer e = λ t. cc

reasonless_read : (bytes : List ℕ) (read : Result NewerRecord JuteFault) → IsBytes bytes → spelled_at bytes ≡ read → with_reason read ≡ Err newer_faults.Reasonless → (newer : NewerRecord) × IsSpelled bytes newer × (tells_why newer ≢ true)
reasonless_read bytes (Ok found) fits was e = (found, spelled_takes bytes found fits was, untold (tells_why found) found e)
reasonless_read bytes (Err fault) fits was e = absurd cc

pub reasonless_is : (bytes : List ℕ) (result : Result NewerRecord NewerFault) → IsBytes bytes → Answers result (newer_of bytes) → result ≡ Err newer_faults.Reasonless → (newer : NewerRecord) × IsSpelled bytes newer × (tells_why newer ≢ true)
reasonless_is bytes result fits given is = reasonless_read bytes (spelled_at bytes) fits refl (subst (λ (r : Result NewerRecord NewerFault). Answers r (newer_of bytes)) is given)

other_than_record : (b : Bool) (newer : NewerRecord) → cond b (done newer) (Err newer_faults.Reasonless) ≡ Err newer_faults.Record → ⊥
other_than_record true newer e = cc
other_than_record false newer e = cc

pub record_is : (bytes : List ℕ) (result : Result NewerRecord NewerFault) → Answers result (newer_of bytes) → result ≡ Err newer_faults.Record → (newer : NewerRecord) → IsSpelled bytes newer → ⊥
record_is bytes result given is newer spelled =
    let read : newer_of bytes ≡ Err newer_faults.Record = subst (λ (r : Result NewerRecord NewerFault). Answers r (newer_of bytes)) is given in
    other_than_record (tells_why newer) newer (sym (ap with_reason (spelled_again bytes newer spelled)) ∙ read)
