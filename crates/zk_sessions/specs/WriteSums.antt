-- The writes of all sessions add up to those of the records.
use Rattle.std.specs.Prelude.{◌≡◌, ◌+◌, ◌<◌, ◌^◌, ℕ, List, map}
use Rattle.std.specs.List.{sum, sum_by}
use Rattle.std.specs.List.Sorted.{IsStrictlySortedBy}
use Rattle.std.specs.Map.{keys_of, values_of}
use Rattle.std.specs.Ordering.{int_cmp}
use Rattle.zk_newer_records.specs.declared.newer_record.NewerRecord.{NewerRecord}
use Rattle.zk_sessions.specs.Known.{after_all}
use Rattle.zk_sessions.specs.Lives.{LifeTable}
use Rattle.zk_sessions.specs.Writes.{write_count}
use Rattle.zk_sessions.specs.declared.known.Known.{Known}
use Rattle.zk_sessions.specs.declared.session.Session.{Session}

abbrev pub record_writes : NewerRecord → ℕ
record_writes newer = write_count newer.txn.op

-- of records
abbrev pub writes_in : List NewerRecord → ℕ
writes_in records = sum (map record_writes records)

abbrev pub session_writes : Session → ℕ
session_writes session = session.writes

-- of all sessions
abbrev pub writes_of : LifeTable → ℕ
writes_of lives = sum_by session_writes (values_of lives)

-- each session is there once, in order
abbrev pub IsOrdered : LifeTable → Type 0
IsOrdered lives = IsStrictlySortedBy int_cmp (keys_of lives)

abbrev pub WritesAddUp : Type 0
WritesAddUp = (known : Known) (records : List NewerRecord) → IsOrdered known.lives → writes_of known.lives + writes_in records < 2 ^ 64 → writes_of (after_all known records).lives ≡ writes_of known.lives + writes_in records
