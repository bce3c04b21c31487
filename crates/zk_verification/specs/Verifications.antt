-- What is said of a data directory: of each of its logs, as far as it can be read, and of what each
-- of its snapshots leads to.
use Rattle.std.specs.Prelude.{◌≡◌, ◌⊎◌, ◌<◌, ◌+◌, ℕ, ℤ, Bool, true, false, List, [], ◌∷◌, ◌++◌, length, map, reverse, Option, Some, None, Result, Ok, Err, Vec}
use Rattle.std.specs.Borrow.{Bor}
use Rattle.std.specs.Global.{Global}
use Rattle.zk_directory.specs.declared.names.FileName.TheVariants as names
use Rattle.zk_directory_state.specs.Histories.{AreIn, HoldsNone}
use Rattle.zk_directory_state.specs.Logs.{AreUnlistedIn, bytes_of}
use Rattle.zk_directory_state.specs.Folders.{IsGiven}
use Rattle.zk_directory_state.specs.Names.{log_name, log_zxid, snapshot_name, snapshot_zxid}
use Rattle.zk_directory_state.specs.declared.fault.HistoryFault.{HistoryFault}
use Rattle.zk_directory_state.specs.declared.fault.HistoryFault.TheVariants as faults
use Rattle.zk_verification.specs.Findings.{AreFound}
use Rattle.zk_verification.specs.Following.{FollowsBytes, IsFollowedEmpty, settled}
use Rattle.zk_verification.specs.Surveys.{AreSurveyed, Surveyed, start_survey}
use Rattle.zk_verification.specs.declared.breaks.Break.{Break}
use Rattle.zk_verification.specs.declared.log_bytes.LogBytes.{LogBytes}
use Rattle.zk_verification.specs.declared.mark.Mark.{Mark}
use Rattle.zk_verification.specs.declared.mark.Mark.TheVariants as marks

-- ---- the logs

-- the bytes that the folder gives, or none if the file cannot be read
abbrev pub IsLoadedBy : Bool → Option (List ℕ) → List ℕ → Type 0
IsLoadedBy true known bytes = IsGiven known bytes
IsLoadedBy false known bytes = bytes ≡ []

abbrev pub IsLoaded : (List ℕ → Option (List ℕ)) → ℤ → LogBytes → Type 0
IsLoaded bytes_in zxid log = (log.zxid ≡ zxid) × IsLoadedBy log.is_read (bytes_in (log_name zxid)) log.bytes.items

-- the logs of these zxids
abbrev pub AreLoaded : (List ℕ → Option (List ℕ)) → List ℤ → List LogBytes → Type 0
AreLoaded bytes_in [] [] = Unit {0}
AreLoaded bytes_in (zxid ∷ zxids) (log ∷ logs) = IsLoaded bytes_in zxid log × AreLoaded bytes_in zxids logs
AreLoaded bytes_in zxids logs = ⊥

abbrev pub log_bytes : LogBytes → List ℕ
log_bytes log = log.bytes.items

-- ---- the snapshots

-- what the snapshot of this zxid leads to, unless it cannot be read
abbrev pub IsVerdict : (List ℕ → Option (List ℕ)) → List Break → List ℤ → List (Bor (List ℕ)) → ℤ → Option ℤ → Mark → Type 0
IsVerdict bytes_in breaks logged logs zxid next mark =
    ((bytes : List ℕ) × IsGiven (bytes_in (snapshot_name zxid)) bytes × FollowsBytes bytes zxid breaks next logged logs mark)
    ⊎ (mark ≡ marks.Wrong (faults.Unreadable (names.Snapshot zxid)))

-- the same, but for a fault that the marks of the logs say already
abbrev pub IsSettled : List Mark → (List ℕ → Option (List ℕ)) → List Break → List ℤ → List (Bor (List ℕ)) → ℤ → Option ℤ → Mark → Type 0
IsSettled said bytes_in breaks logged logs zxid next mark = (verdict : Mark) × IsVerdict bytes_in breaks logged logs zxid next verdict × (mark ≡ settled said (Some zxid) verdict)

-- a snapshot that serves is exact from this zxid on
abbrev pub next_after : Option ℤ → Mark → Option ℤ
next_after next (marks.States snapshot exact last digests) = Some exact.zxid
next_after next mark = next

-- these snapshots, the latest first, after the one that is exact from `next` on
abbrev pub AreFollowed : List Mark → (List ℕ → Option (List ℕ)) → List Break → List ℤ → List (Bor (List ℕ)) → List ℤ → Option ℤ → List Mark → Type 0
AreFollowed said bytes_in breaks logged logs [] next followed = followed ≡ []
AreFollowed said bytes_in breaks logged logs (zxid ∷ zxids) next followed =
    (mark : Mark) × (rest : List Mark) × IsSettled said bytes_in breaks logged logs zxid next mark × AreFollowed said bytes_in breaks logged logs zxids (next_after next mark) rest × (followed ≡ mark ∷ rest)

-- what the logs lead to from the empty tree, if there is no snapshot
abbrev pub IsEmptyBy : List Mark → List ℤ → List Break → List ℤ → List (Bor (List ℕ)) → List Mark → Type 0
IsEmptyBy said (zxid ∷ held) breaks logged logs followed = followed ≡ []
IsEmptyBy said [] breaks logged logs followed = (verdict : Mark) × IsFollowedEmpty breaks logged logs verdict × (followed ≡ settled said None verdict ∷ [])

-- ---- the directory

-- what the snapshots lead to, the latest first; or the logs from the empty tree
pub record AreStates (surveyed : Surveyed) (snapshot_bytes : List ℕ → Option (List ℕ)) (held logged : List ℤ) (loaded : List LogBytes) (states : List Mark) : Type 0 where
  pub logs : List (Bor (List ℕ))
  pub same : map bytes_of logs ≡ map log_bytes loaded
  pub followed : List Mark
  pub are_followed : AreFollowed surveyed.marks snapshot_bytes surveyed.breaks logged logs (reverse held) None followed
  pub empty : List Mark
  pub is_empty : IsEmptyBy surveyed.marks held surveyed.breaks logged logs empty
  pub are : states ≡ followed ++ empty

pub record AreMarked (snapshot_bytes : List ℕ → Option (List ℕ)) (held logged : List ℤ) (loaded : List LogBytes) (all : List Mark) : Type 0 where
  pub surveyed : Surveyed
  pub is_survey : AreSurveyed start_survey loaded surveyed
  pub states : List Mark
  pub are_states : AreStates surveyed snapshot_bytes held logged loaded states
  pub found : List Mark
  pub are_found : AreFound surveyed.history states found
  pub are : all ≡ surveyed.marks ++ states ++ found

pub record IsChecked (snapshots : Option (List (List ℕ))) (snapshot_bytes : List ℕ → Option (List ℕ)) (logs : Option (List (List ℕ))) (log_bytes : List ℕ → Option (List ℕ)) (all : List Mark) : Type 0 where
  pub held : List ℤ
  pub logged : List ℤ
  pub are_snapshots : AreIn snapshot_zxid snapshots held
  pub are_logs : AreIn log_zxid logs logged
  pub some : 0 < length held + length logged
  pub loaded : List LogBytes
  pub are_loaded : AreLoaded log_bytes logged loaded
  pub marked : AreMarked snapshot_bytes held logged loaded all

-- the marks; or there is no file, a folder cannot be read, or allocation failed
abbrev pub FindsMarks : Option (List (List ℕ)) → (List ℕ → Option (List ℕ)) → Option (List (List ℕ)) → (List ℕ → Option (List ℕ)) → Result (Vec Mark Global) HistoryFault → Type 0
FindsMarks snapshots snapshot_bytes logs log_bytes (Ok all) = IsChecked snapshots snapshot_bytes logs log_bytes all.items
FindsMarks snapshots snapshot_bytes logs log_bytes (Err fault) = AreUnlistedIn snapshots logs fault ⊎ (HoldsNone snapshots logs × (fault ≡ faults.Empty))

-- ---- calls within

abbrev pub FollowsOn : List Mark → (List ℕ → Option (List ℕ)) → List Break → List ℤ → List (Bor (List ℕ)) → List ℤ → Option ℤ → List Mark → List Mark → Type 0
FollowsOn said bytes_in breaks logged logs zxids next old new = (followed : List Mark) × AreFollowed said bytes_in breaks logged logs zxids next followed × (new ≡ old ++ followed)

abbrev pub FollowsEmpty : List Mark → List ℤ → List Break → List ℤ → List (Bor (List ℕ)) → List Mark → List Mark → Type 0
FollowsEmpty said held breaks logged logs old new = (empty : List Mark) × IsEmptyBy said held breaks logged logs empty × (new ≡ old ++ empty)
