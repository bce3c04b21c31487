-- What is said of a data directory: each log as far as it can be read, the states that can be
-- restored, and what is wrong.
use Rattle.std.specs.Prelude.{◌-◌, ℕ, ℤ, Bool, true, false, List, length, slice_get, Option, Some, None, Result, Ok, Err}
use Rattle.std.specs.List.{count_by}
use Rattle.zk_directory.specs.declared.file.FileEntry.{FileEntry}
use Rattle.zk_directory.specs.declared.file.LogFile.{LogFile}
use Rattle.zk_log.specs.declared.loaded.Ending.{Ending}
use Rattle.zk_directory.specs.declared.file.LogFileFault.{LogFileFault}
use Rattle.zk_verification.specs.declared.mark.Mark.{Mark}
use Rattle.zk_verification.specs.declared.mark.Mark.TheVariants as marks
use Rattle.zk_verification.specs.declared.mark.Moment.{Moment}

abbrev pub moment_of : FileEntry → Moment
moment_of entry = record { zxid = entry.newer.txn.zxid; time = entry.newer.txn.time }

abbrev pub span_by : Option FileEntry → Option FileEntry → Option (ℤ × ℤ)
span_by (Some first) (Some last) = Some (first.newer.txn.zxid, last.newer.txn.zxid)
span_by first last = None

-- the zxids of the first and the last entry
abbrev pub span_of : List FileEntry → Option (ℤ × ℤ)
span_of entries = span_by (slice_get entries 0) (slice_get entries (length entries - 1))

-- how a log ends, unless it is broken
abbrev pub ending_of : Result Ending LogFileFault → Option Ending
ending_of (Ok ending) = Some ending
ending_of (Err fault) = None

-- a log that was read
abbrev pub log_mark : ℤ → LogFile → Mark
log_mark zxid file = marks.Log zxid (length file.entries.items) (span_of file.entries.items) (ending_of file.outcome)

-- a fault, a place of a log that lost transactions, or digests that show that some are missing or that
-- the tree is another
abbrev pub is_wrong : Mark → Bool
is_wrong (marks.Log zxid records span ending) = false
is_wrong (marks.States snapshot exact last digests) = false
is_wrong (marks.Stopped snapshot) = false
is_wrong (marks.Joint joint missing) = missing
is_wrong (marks.Lost damage) = true
is_wrong (marks.Gap before after) = true
is_wrong (marks.Digest mismatch) = true
is_wrong (marks.Wrong fault) = true

abbrev pub wrong_in : List Mark → ℕ
wrong_in all = count_by is_wrong all
