-- What a snapshot leads to, with the logs after it: states, to the zxid from which the next snapshot
-- is exact, or to the end of the history that the logs hold without a break.
use Rattle.std.specs.Prelude.{◌≡◌, ◌⊎◌, ℕ, ℤ, pos, Bool, true, false, int_le, int_lt, List, [], ◌∷◌, drop, Option, Some, None, Result, Ok, Err, if◌then◌else◌}
use Rattle.std.specs.Borrow.{Bor}
use Rattle.std.specs.List.{list_any}
use Rattle.std.specs.Option.{unwrap_or}
use Rattle.std.specs.Ordering.{int_eq}
use Rattle.zk_replay.specs.Bases.{exact_from, snapshot_fault}
use Rattle.zk_replay.specs.declared.exact.Exact.{Exact}
use Rattle.zk_replay.specs.declared.fault.BaseFault.{BaseFault}
use Rattle.zk_replay.specs.declared.fault.BaseFault.TheVariants as base_faults
use Rattle.zk_directory.specs.Orders.{first_log}
use Rattle.zk_directory_state.specs.Attempts.{FindsExact, IsExact, broken_by, history_fault, passed_fault}
use Rattle.zk_directory_state.specs.declared.fault.HistoryFault.{HistoryFault}
use Rattle.zk_directory_state.specs.declared.fault.HistoryFault.TheVariants as faults
use Rattle.zk_directory_state.specs.declared.fault.PassedFault.{PassedFault}
use Rattle.zk_jute.specs.declared.fault.JuteFault.{JuteFault}
use Rattle.zk_path.specs.declared.memory.NoMemory.{NoMemory}
use Rattle.zk_directory_state.specs.Directories.{IsRestored}
use Rattle.zk_directory_state.specs.declared.restored_directory.Restored.{Restored}
use Rattle.zk_directory_state.specs.declared.restore_fault.DirectoryFault.{DirectoryFault}
use Rattle.zk_directory_state.specs.declared.restoration.Base.TheVariants as bases
use Rattle.zk_snapshot.specs.Faults.{fault_of}
use Rattle.zk_snapshot.specs.Reading.{all_of}
use Rattle.zk_snapshot.specs.declared.snapshot.Contents.{Contents}
use Rattle.zk_snapshot.specs.declared.snapshot.Snapshot.{Snapshot}
use Rattle.zk_verification.specs.Breaks.{earlier, greater, reach_of}
use Rattle.zk_verification.specs.Surveys.{is_differing}
use Rattle.zk_verification.specs.declared.breaks.Break.{Break}
use Rattle.zk_verification.specs.declared.mark.Mark.{Mark}
use Rattle.zk_verification.specs.declared.mark.Mark.TheVariants as marks

-- ---- up to which zxid

-- the end of the history, or the zxid from which the next snapshot is exact, if there is one
abbrev pub upto_of : Option ℤ → Option ℤ → Exact → Option ℤ
upto_of end None exact = end
upto_of end (Some next) exact = earlier end (greater next exact.zxid)

-- ---- the states

abbrev pub mark_by : Option ℤ → Exact → ℤ → List ℤ → Result Restored DirectoryFault → Mark
mark_by snapshot exact zxid logged (Ok restored) = marks.States snapshot exact (unwrap_or restored.position zxid) restored.digests
mark_by snapshot exact zxid logged (Err failed) = marks.Wrong (history_fault failed zxid logged)

-- the logs from the one on in which the entries after a zxid begin
abbrev pub from_first : {A : Type 0} → ℤ → List ℤ → List A → List A
from_first zxid logged logs = drop (first_log zxid logged) logs

-- the states that it leads to up to a zxid, or why there are none
pub record IsRestoredTo (snapshot : Snapshot) (zxid : ℤ) (exact : Exact) (upto : Option ℤ) (logged : List ℤ) (logs : List (Bor (List ℕ))) (mark : Mark) : Type 0 where
  pub contents : Bor Contents
  pub same : contents.now ≡ snapshot.contents
  pub result : Result Restored DirectoryFault
  pub restored : IsRestored (bases.Snapshot contents zxid exact.zxid) upto logs result
  pub is : mark ≡ mark_by (Some zxid) exact zxid logged result

pub record IsFollowed (snapshot : Snapshot) (zxid : ℤ) (breaks : List Break) (next : Option ℤ) (logged : List ℤ) (logs : List (Bor (List ℕ))) (mark : Mark) : Type 0 where
  pub exact : Exact
  pub is_exact : IsExact snapshot zxid logs exact
  pub restored : IsRestoredTo snapshot zxid exact (upto_of (reach_of zxid breaks) next exact) logged logs mark

-- it does not state where its window ends, and its nodes are no tree
pub record IsNoTree (snapshot : Snapshot) (zxid : ℤ) (mark : Mark) : Type 0 where
  pub untold : (exact_from snapshot zxid).is_told ≡ false
  pub fault : BaseFault
  pub broken : snapshot_fault snapshot.contents ≡ Some fault
  pub is : mark ≡ marks.Wrong (faults.Snapshot zxid (broken_by fault))

-- a snapshot that was read, with the logs from where its entries begin
abbrev pub Follows : Snapshot → ℤ → List Break → Option ℤ → List ℤ → List (Bor (List ℕ)) → Mark → Type 0
Follows snapshot zxid breaks next logged logs mark = IsFollowed snapshot zxid breaks next logged logs mark ⊎ IsNoTree snapshot zxid mark

abbrev pub IsPassed : ℤ → Option PassedFault → Mark → Type 0
IsPassed zxid None mark = ⊥
IsPassed zxid (Some fault) mark = mark ≡ marks.Wrong (faults.Snapshot zxid fault)

abbrev pub FollowsBy : Result Snapshot JuteFault → List ℕ → ℤ → List Break → Option ℤ → List ℤ → List (Bor (List ℕ)) → Mark → Type 0
FollowsBy (Ok snapshot) bytes zxid breaks next logged logs mark = Follows snapshot zxid breaks next (from_first zxid logged logged) (from_first zxid logged logs) mark
FollowsBy (Err field) bytes zxid breaks next logged logs mark = IsPassed zxid (passed_fault (fault_of bytes field)) mark

-- the bytes of a snapshot, with all logs
abbrev pub FollowsBytes : List ℕ → ℤ → List Break → Option ℤ → List ℤ → List (Bor (List ℕ)) → Mark → Type 0
FollowsBytes bytes zxid breaks next logged logs mark = FollowsBy (all_of bytes) bytes zxid breaks next logged logs mark

-- ---- the empty tree

abbrev pub from_start : Exact
from_start = record { zxid = pos 0; is_told = true }

pub record IsFollowedEmpty (breaks : List Break) (logged : List ℤ) (logs : List (Bor (List ℕ))) (mark : Mark) : Type 0 where
  pub result : Result Restored DirectoryFault
  pub restored : IsRestored bases.Empty (reach_of (pos 0) breaks) logs result
  pub is : mark ≡ mark_by None from_start (pos 0) logged result

-- ---- one fault once

-- the mark says that a log is broken at the place where a server stops reading it
abbrev pub is_broken : Mark → ℤ → Bool
is_broken (marks.Lost damage) log = int_eq damage.log log
is_broken (marks.Wrong (faults.Log marked fault)) log = int_eq marked log
is_broken mark log = false

-- the mark says what the fault says
abbrev pub says : HistoryFault → Mark → Bool
says (faults.Log log fault) mark = is_broken mark log
says (faults.Differs log at) mark = is_differing (Some mark) log
says fault mark = false

-- a fault that was said is not said again
abbrev pub settled : List Mark → Option ℤ → Mark → Mark
settled said snapshot (marks.Wrong fault) = if list_any (says fault) said then marks.Stopped snapshot else marks.Wrong fault
settled said snapshot mark = mark

-- ---- calls

-- allocation failed, or it is this mark
abbrev pub Marks : Option ℤ → Exact → ℤ → List ℤ → Result Restored DirectoryFault → Result Mark NoMemory → Type 0
Marks snapshot exact zxid logged outcome (Ok mark) = mark ≡ mark_by snapshot exact zxid logged outcome
Marks snapshot exact zxid logged outcome (Err failed) = Unit {0}
