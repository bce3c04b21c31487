-- What the files of a directory prove: the states from a base up to the last entry of an unbroken
-- chain. A question that goes beyond them is a fault, and so is a history that has no beginning.
use Rattle.std.specs.Prelude.{◌≡◌, ◌+◌, ℕ, ℤ, Bool, true, false, int_lt, ◌&&◌, ◌||◌, List, [], ◌∷◌, ◌++◌, slice_get, Option, Some, None, Result, Ok, Err, if◌then◌else◌}
use Rattle.std.specs.Borrow.{Bor}
use Rattle.zk_directory.specs.Continuing.{continues, starts_history}
use Rattle.zk_directory.specs.Joints.{is_joint}
use Rattle.zk_directory.specs.LogFiles.{IsLogFile}
use Rattle.zk_directory.specs.declared.file.FileEntry.{FileEntry}
use Rattle.zk_directory.specs.declared.file.LogFile.{LogFile}
use Rattle.zk_directory.specs.declared.joint.Joint.{Joint}
use Rattle.zk_directory_state.specs.declared.fault.HistoryFault.{HistoryFault}
use Rattle.zk_directory_state.specs.declared.fault.HistoryFault.TheVariants as faults
use Rattle.zk_directory_state.specs.Attempts.{log_at, zxid_or_none}
use Rattle.zk_directory_state.specs.declared.evidence.Start.{Start}
use Rattle.zk_directory_state.specs.declared.history.Shown.{Shown}
use Rattle.zk_directory_state.specs.declared.restored_directory.Restored.{Restored}
use Rattle.zk_directory_state.specs.declared.upto.Upto.{Upto}
use Rattle.zk_directory_state.specs.declared.upto.Upto.TheVariants.{Last, Zxid, Time}

-- ---- the beginning

abbrev pub IsStartBy : ℕ → Option FileEntry → Option Start → Type 0 → Type 0
IsStartBy log None start next = next
IsStartBy log (Some entry) start next = start ≡ Some (record { log = log; zxid = entry.newer.txn.zxid })

-- the first entry of logs, of which the first one has this place
abbrev pub IsStart : ℕ → List (Bor (List ℕ)) → Option Start → Type 0
IsStart log [] start = start ≡ None
IsStart log (bytes ∷ logs) start = (file : LogFile) × IsLogFile bytes.now file × IsStartBy log (slice_get file.entries.items 0) start (IsStart (log + 1) logs start)

-- nothing was before it: by its zxid, or since its log is `log.1` or `log.100000001`
abbrev pub is_first : List ℤ → Start → Bool
is_first logged start = starts_history start.zxid || starts_history (log_at logged start.log)

-- logs without an entry that a server created for the first transaction
abbrev pub is_new : List ℤ → Bool
is_new logged = starts_history (log_at logged 0)

-- ---- the end

-- after the last entry that was taken, which has this time
abbrev pub is_later : ℤ → Option ℤ → Bool
is_later time None = false
is_later time (Some last) = int_lt last time

abbrev pub is_beyond : Upto → Restored → Bool
is_beyond Last restored = false
is_beyond (Zxid zxid) restored = int_lt (zxid_or_none restored.position) zxid
is_beyond (Time time) restored = is_later time restored.time

abbrev pub beyond : Restored → HistoryFault
beyond restored = faults.Beyond (zxid_or_none restored.position) restored.time

-- at a time between two entries, the second of which does not continue the first, what is missing may
-- have happened before it
abbrev pub gap_fault : Upto → Option ℤ → ℤ → Option HistoryFault
gap_fault (Time time) (Some position) next = if continues position next then None else Some (faults.Gap position next)
gap_fault upto position next = None

-- by the entry at which reading stopped, or the end of the logs
abbrev pub end_fault : Upto → Restored → Option ℤ → Option HistoryFault
end_fault upto restored None = if is_beyond upto restored then Some (beyond restored) else None
end_fault upto restored (Some next) = gap_fault upto restored.position next

abbrev pub proved_by : Shown → Option HistoryFault → Result Shown HistoryFault
proved_by shown None = Ok shown
proved_by shown (Some fault) = Err fault

-- a state, if the files prove it
abbrev pub proved : Upto → Result Shown HistoryFault → Result Shown HistoryFault
proved upto (Ok shown) = proved_by shown (end_fault upto shown.restored shown.restored.next)
proved upto (Err fault) = Err fault

-- ---- what it rests on

-- the question goes on after the last entry that was taken
abbrev pub goes_on : Upto → ℤ → Bool
goes_on Last position = false
goes_on (Zxid zxid) position = int_lt position zxid
goes_on (Time time) position = true

-- nothing shows that no entry is between the last one and the first one of a later epoch
abbrev pub last_joint : Upto → Option ℤ → Option ℤ → List Joint
last_joint upto (Some position) (Some next) = if goes_on upto position && is_joint position next then (record { last = position; next = next }) ∷ [] else []
last_joint upto position next = []

-- the places at which a state rests on the end of an epoch that is not proved
abbrev pub unproved : Upto → Restored → List Joint
unproved upto restored = restored.joints.items ++ last_joint upto restored.position restored.next
