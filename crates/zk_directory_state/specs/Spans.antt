-- The transactions that the logs of a directory hold, from the first one to the last, and what they
-- prove of a range that is asked for.
use Rattle.std.specs.Prelude.{◌≡◌, ℕ, ℤ, Bool, true, false, not, ◌&&◌, ◌||◌, int_lt, List, [], ◌∷◌, ◌++◌, Option, Some, None, codes, if◌then◌else◌}
use Rattle.zk_directory.specs.declared.file.LogFileFault.{LogFileFault}
use Rattle.zk_directory_state.specs.declared.fault.HistoryFault.{HistoryFault}
use Rattle.zk_directory_state.specs.declared.fault.HistoryFault.TheVariants as faults
use Rattle.zk_directory_state.specs.Histories.{blank_fault}
use Rattle.zk_directory_state.specs.declared.range.Bound.{Bound}
use Rattle.zk_directory_state.specs.declared.range.Bound.TheVariants.{Zxid, Time}
use Rattle.zk_directory_state.specs.declared.range.Range.{Range}
use Rattle.zk_directory_state.specs.declared.span.Moment.{Moment}
use Rattle.zk_directory_state.specs.declared.span.Span.{Span}
use Rattle.zk_format.specs.Spelling.{id_digits}
use Rattle.zk_json.specs.Times.{IsTimeText}
use Rattle.zk_newer_records.specs.declared.newer_record.NewerRecord.{NewerRecord}

-- ---- the first transaction and the last one

abbrev pub moment_of : NewerRecord → Moment
moment_of newer = record { zxid = newer.txn.zxid; time = newer.txn.time }

-- with one more
abbrev pub span_after : Option Span → NewerRecord → Span
span_after None newer = record { first = moment_of newer; last = moment_of newer }
span_after (Some span) newer = record { first = span.first; last = moment_of newer }

-- ---- bounds

abbrev pub is_before : Bound → Moment → Bool
is_before (Zxid zxid) moment = int_lt zxid moment.zxid
is_before (Time time) moment = int_lt time moment.time

abbrev pub is_after : Bound → Moment → Bool
is_after (Zxid zxid) moment = int_lt moment.zxid zxid
is_after (Time time) moment = int_lt moment.time time

-- a range without a first bound begins with the history
abbrev pub begins_before : Option Bound → Moment → Bool
begins_before None moment = true
begins_before (Some bound) moment = is_before bound moment

-- one without a last bound ends with the logs
abbrev pub ends_before : Option Bound → Moment → Bool
ends_before None moment = false
ends_before (Some bound) moment = is_before bound moment

-- a bound, if there is one, comes later
abbrev pub comes_after : Option Bound → Moment → Bool
comes_after None moment = false
comes_after (Some bound) moment = is_after bound moment

-- ---- what is asked for

-- logs without a transaction do not show what led to a snapshot
abbrev pub unlogged_fault : List ℤ → List ℤ → Option HistoryFault
unlogged_fault [] logged = blank_fault [] logged
unlogged_fault (zxid ∷ held) logged = Some faults.NoTransaction

-- all that is asked for comes after the last transaction, or before the first one, where others were
-- before it
abbrev pub outside_fault : Range → Bool → Span → Option HistoryFault
outside_fault range whole span =
    if comes_after range.from span.last then Some (faults.Beyond span.last.zxid (Some span.last.time)) else
    (if not whole && ends_before range.to span.first then Some (faults.Purged span.first.zxid) else None)

-- logs of which none has an intact entry, with the last fault of one
abbrev pub empty_fault : Option (ℤ × LogFileFault) → List ℤ → List ℤ → Option HistoryFault
empty_fault None held logged = unlogged_fault held logged
empty_fault (Some fault) held logged = Some (faults.Log fault.0 fault.1)

-- ---- what is said of the answer

-- it is of a part of the range
abbrev pub is_part : Range → Bool → Span → Bool
is_part range whole span = (not whole && begins_before range.from span.first) || comes_after range.to span.last

-- the first and the last transaction, with their times in UTC
unfoldable pub range_line : Span → List ℕ → List ℕ → List ℕ
range_line span first last = codes "zk: range " ++ id_digits span.first.zxid ++ codes " " ++ id_digits span.last.zxid ++ codes " " ++ first ++ codes " " ++ last ++ codes "\n"

abbrev pub IsRangeLine : Span → List ℕ → Type 0
IsRangeLine span line = (first : List ℕ) × (last : List ℕ) × IsTimeText span.first.time first × IsTimeText span.last.time last × (line ≡ range_line span first last)

abbrev pub IsNoticeBy : Bool → Span → List ℕ → Type 0
IsNoticeBy true span notice = IsRangeLine span notice
IsNoticeBy false span notice = notice ≡ []

abbrev pub IsRangeNotice : Range → Bool → Option Span → List ℕ → Type 0
IsRangeNotice range whole None notice = notice ≡ []
IsRangeNotice range whole (Some span) notice = IsNoticeBy (is_part range whole span) span notice
