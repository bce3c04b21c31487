-- When the records of two servers mean the same transaction. A server logs what its leader proposed, byte
-- for byte, but for three things. The digest is a sum over a server's own tree. A failed multi that was
-- proposed again, to a server that came back, has the errors of the leader's memory in place of its
-- requests. The end of a session lists the paths to delete only where servers write them.
use Rattle.std.specs.Prelude.{ℕ, ℤ, pos, Bool, true, false, ◌&&◌, ◌||◌, List, [], ◌∷◌, Option, Some, None, if◌then◌else◌}
use Rattle.std.specs.List.{list_all, list_any}
use Rattle.std.specs.Ordering.{int_eq}
use Rattle.std.specs.Result.{result_ok}
use Rattle.std.specs.Str.{bytes_eq}
use Rattle.zk_newer_records.specs.NewerRecords.{newer_record}
use Rattle.zk_newer_records.specs.Reading.{newer_of}
use Rattle.zk_newer_records.specs.declared.newer_record.Encoding.{Encoding}
use Rattle.zk_newer_records.specs.declared.newer_record.Encoding.TheVariants as forms
use Rattle.zk_newer_records.specs.declared.newer_record.NewerRecord.{NewerRecord}
use Rattle.zk_table.specs.declared.sub.Sub.{Sub}
use Rattle.zk_table.specs.declared.sub.Sub.TheVariants as subs
use Rattle.zk_table.specs.declared.txn.Op.{Op}
use Rattle.zk_table.specs.declared.txn.Op.TheVariants as ops
use Rattle.zk_table.specs.declared.txn.Txn.{Txn}

-- ---- all but the digest

abbrev pub undigested : NewerRecord → NewerRecord
undigested newer = record { txn = newer.txn; form = newer.form; digest = None }

abbrev pub are_alike : NewerRecord → NewerRecord → Bool
are_alike first second = bytes_eq (newer_record (undigested first)) (newer_record (undigested second))

-- ---- the header, without the type of the operation

abbrev pub is_same_header : Txn → Txn → Bool
is_same_header first second = int_eq first.session second.session && int_eq first.cxid second.cxid && int_eq first.zxid second.zxid && int_eq first.time second.time

-- ---- multis that failed

-- the code of a part that was rejected; 0 is that of one before it
abbrev pub code_of : Sub → ℤ
code_of (subs.Error code) = code
code_of part = pos 0

-- the code of the first part that was rejected
abbrev pub failure_in : List Sub → Option ℤ
failure_in [] = None
failure_in (part ∷ parts) = if int_eq (code_of part) (pos 0) then failure_in parts else Some (code_of part)

abbrev pub failure_of : Op → Option ℤ
failure_of (ops.Multi parts) = failure_in parts
failure_of op = None

abbrev pub is_same_code : Option ℤ → Option ℤ → Bool
is_same_code (Some first) (Some second) = int_eq first second
is_same_code first second = false

-- neither changes anything, for the same reason
abbrev pub fail_alike : NewerRecord → NewerRecord → Bool
fail_alike first second = is_same_code (failure_of first.txn.op) (failure_of second.txn.op)

-- ---- ends of sessions

abbrev pub is_close : Op → Bool
is_close ops.CloseSession = true
is_close op = false

-- the paths to delete, where the record has them
abbrev pub listed_paths : Encoding → Option (List (List ℕ))
listed_paths (forms.ClosePaths listed) = Some listed
listed_paths form = None

abbrev pub has_path : List (List ℕ) → List ℕ → Bool
has_path paths path = list_any (bytes_eq path) paths

abbrev pub has_all_of : List (List ℕ) → List (List ℕ) → Bool
has_all_of others paths = list_all (has_path others) paths

-- in any order
abbrev pub are_same_paths : List (List ℕ) → List (List ℕ) → Bool
are_same_paths first second = has_all_of second first && has_all_of first second

-- a record without paths leaves open which they are
abbrev pub agree_on_paths : Option (List (List ℕ)) → Option (List (List ℕ)) → Bool
agree_on_paths (Some first) (Some second) = are_same_paths first second
agree_on_paths first second = true

abbrev pub close_alike : NewerRecord → NewerRecord → Bool
close_alike first second = is_close first.txn.op && is_close second.txn.op && agree_on_paths (listed_paths first.form) (listed_paths second.form)

-- ---- any records

abbrev pub is_same_meaning : NewerRecord → NewerRecord → Bool
is_same_meaning first second = are_alike first second || (is_same_header first.txn second.txn && (fail_alike first second || close_alike first second))

-- the record of these bytes
abbrev pub record_of : List ℕ → Option NewerRecord
record_of bytes = result_ok (newer_of bytes)

abbrev pub is_same_by : Option NewerRecord → Option NewerRecord → Bool
is_same_by (Some first) (Some second) = is_same_meaning first second
is_same_by first second = false

-- the bytes of two records
abbrev pub is_same_record : List ℕ → List ℕ → Bool
is_same_record first second = bytes_eq first second || is_same_by (record_of first) (record_of second)
