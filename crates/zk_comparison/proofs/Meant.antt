-- Records without their digests.
use Rattle.std.proofs.Common.{◌≡◌, ◌≤◌, ◌+◌, ◌-◌, ℕ, ℤ, List, ◌++◌, length, take, refl, sym, ap, ◌∙◌, append-nil, length-append, arith, Option, Some, None, Ok, Err}
use Rattle.std.proofs.Math.Seq.{take-append_seam}
use Rattle.zk_comparison.specs.Meanings.{record_of, undigested}
use Rattle.zk_newer_records.specs.NewerRecords.{IsNewer, digest_bytes, header_with, newer_record, written_body, written_kind}
use Rattle.zk_newer_records.specs.Reading.{newer_of}
use Rattle.zk_newer_records.specs.declared.fault.NewerFault.{NewerFault}
use Rattle.zk_newer_records.specs.declared.newer_record.NewerRecord.{NewerRecord}

pub read_whole : (bytes : List ℕ) (newer : NewerRecord) → newer_of bytes ≡ Ok newer → Some newer ≡ record_of bytes
read_whole bytes newer e = rw e refl

pub read_none : (bytes : List ℕ) (fault : NewerFault) → newer_of bytes ≡ Err fault → None ≡ record_of bytes
read_none bytes fault e = rw e refl

-- a record without the digest
undigested_bytes : NewerRecord → List ℕ
undigested_bytes newer = header_with (written_kind newer.txn.op newer.form) newer.txn ++ written_body newer.txn.op newer.form

are_undigested : (newer : NewerRecord) → newer_record (undigested newer) ≡ undigested_bytes newer
unfolding newer_record undigested_bytes
are_undigested newer = append-nil _

followed : (bytes : List ℕ) (newer : NewerRecord) (digest : Option ℤ) → newer.digest ≡ digest → IsNewer bytes newer → bytes ≡ undigested_bytes newer ++ digest_bytes digest
unfolding newer_record undigested_bytes
followed bytes newer digest e is = is.written.spelled ∙ ap (λ d. undigested_bytes newer ++ digest_bytes d) e

twelve : (sum : ℤ) → length (digest_bytes (Some sum)) ≡ 12
twelve sum = refl

with_twelve : (bytes : List ℕ) (newer : NewerRecord) (sum : ℤ) → newer.digest ≡ Some sum → IsNewer bytes newer → length bytes ≡ length (undigested_bytes newer) + 12
with_twelve bytes newer sum e is = ap length (followed bytes newer (Some sum) e is) ∙ (length-append (undigested_bytes newer) (digest_bytes (Some sum)) ∙ ap (λ n. length (undigested_bytes newer) + n) (twelve sum))

pub room_for_digest : (bytes : List ℕ) (newer : NewerRecord) (sum : ℤ) → newer.digest ≡ Some sum → IsNewer bytes newer → 12 ≤ length bytes
room_for_digest bytes newer sum e is = omega (arith, with_twelve bytes newer sum e is)

pub without_digest : (bytes : List ℕ) (newer : NewerRecord) (sum : ℤ) → newer.digest ≡ Some sum → IsNewer bytes newer → take (length bytes - 12) bytes ≡ newer_record (undigested newer)
without_digest bytes newer sum e is =
    let room : length bytes - 12 ≡ length (undigested_bytes newer) = omega (arith, with_twelve bytes newer sum e is) in
    ap (λ n. take n bytes) room
    ∙ (ap (take (length (undigested_bytes newer))) (followed bytes newer (Some sum) e is)
    ∙ (take-append_seam (undigested_bytes newer) (digest_bytes (Some sum)) ∙ sym (are_undigested newer)))

pub with_none : (bytes : List ℕ) (newer : NewerRecord) → newer.digest ≡ None → IsNewer bytes newer → bytes ≡ newer_record (undigested newer)
with_none bytes newer e is = followed bytes newer None e is ∙ (append-nil _ ∙ sym (are_undigested newer))
