-- A restoration, call by call: the history that was joined, and the stage that its records lead to.
use Rattle.std.specs.Prelude.{◌≡◌, ℤ, pos, Bool, true, false, not, int_lt, List, [], ◌∷◌, Option, Some, None, Result, Ok, Err}
use Rattle.zk_table.specs.States.{start_state}
use Rattle.std.specs.FinMap.{empty}
use Rattle.zk_replay.specs.Bases.{IsDraftOf, drafted, sessions_of, snapshot_fault}
use Rattle.zk_replay.specs.declared.draft.Draft.{Draft}
use Rattle.zk_replay.specs.declared.fault.BaseFault.{BaseFault}
use Rattle.zk_replay.specs.declared.fault.BaseFault.TheVariants as base_faults
use Rattle.zk_directory.specs.Chains.{History, after_turn, history_of}
use Rattle.zk_directory.specs.declared.chain.Turn.{Turn}
use Rattle.zk_directory.specs.declared.chain.Turn.TheVariants.{Take}
use Rattle.zk_fold.specs.Folds.{FoldView}
use Rattle.zk_directory.specs.declared.file.FileEntry.{FileEntry}
use Rattle.zk_directory.specs.declared.file.LogFile.{LogFile}
use Rattle.zk_newer_records.specs.declared.newer_record.NewerRecord.{NewerRecord}
use Rattle.zk_replay.specs.Restoring.{IsRestored, IsTableIn, Takes, finish_fault, take_fault}
use Rattle.zk_replay.specs.declared.stage.Stage.{Stage}
use Rattle.zk_replay.specs.declared.stage.Stage.TheVariants as stages
use Rattle.zk_snapshot.specs.declared.snapshot.Contents.{Contents}
use Rattle.zk_replay.specs.Tallies.{Tally}
use Rattle.zk_directory_state.specs.Counts.{Counts, IsTallied, Tallies, first_tally}
use Rattle.zk_directory_state.specs.Joins.{Reading, Window, decision, read_file, told_of}
use Rattle.zk_directory_state.specs.declared.restore_fault.RestoreFault.{RestoreFault}
use Rattle.zk_directory_state.specs.declared.restore_fault.RestoreFault.TheVariants as faults
use Rattle.zk_directory_state.specs.declared.restoration.Base.{Base}
use Rattle.zk_directory_state.specs.declared.restoration.Base.TheVariants as bases
use Rattle.zk_directory_state.specs.declared.restoration.Restore.{Restore}

-- ---- the base

abbrev pub zxid_of : Base → Option ℤ
zxid_of bases.Empty = None
zxid_of (bases.Snapshot contents zxid exact) = Some zxid

-- from the empty tree each state is exact
abbrev pub exact_of : Base → ℤ
exact_of bases.Empty = pos 0
exact_of (bases.Snapshot contents zxid exact) = exact

-- nothing was read yet
abbrev pub start_of : Base → Option ℤ → History
start_of base upto = record { base = zxid_of base; upto = upto; position = zxid_of base; taken = [] }

abbrev pub is_before : Option ℤ → ℤ → Bool
is_before None exact = false
is_before (Some zxid) exact = int_lt zxid exact

-- the state is asked for before the snapshot is exact
abbrev pub is_early : Base → Option ℤ → Bool
is_early bases.Empty upto = false
is_early (bases.Snapshot contents zxid exact) upto = is_before upto exact

-- a snapshot's nodes are no tree
abbrev pub base_fault : Base → Option BaseFault
base_fault bases.Empty = None
base_fault (bases.Snapshot contents zxid exact) = snapshot_fault contents.now

-- the nodes and sessions of a snapshot
abbrev pub first_draft : Contents → Draft
first_draft contents = record { nodes = drafted contents.accesses empty contents.nodes; sessions = sessions_of empty contents.leases }

abbrev pub first_window : Base → Window
first_window bases.Empty = None
first_window (bases.Snapshot contents zxid exact) = Some (first_draft contents.now, exact)

-- the table begins with three nodes, or a window with the snapshot's
abbrev pub IsFirstStage : Base → Stage → Type 0
IsFirstStage bases.Empty stage = IsTableIn start_state stage
IsFirstStage (bases.Snapshot contents zxid exact) (stages.Window draft last) = IsDraftOf contents.now draft × (last ≡ zxid)
IsFirstStage (bases.Snapshot contents zxid exact) (stages.Table table) = ⊥

pub record IsBegun (base : Base) (upto : Option ℤ) (restore : Restore) : Type 0 where
  pub in_time : is_early base upto ≡ false
  pub sound : base_fault base ≡ None
  pub history : history_of restore.chain ≡ start_of base upto
  pub exact : restore.exact ≡ exact_of base
  pub stage : IsFirstStage base restore.stage
  pub tally : IsTallied restore.stage restore.digests (first_tally base)

abbrev pub Begins : Base → Option ℤ → Result Restore RestoreFault → Type 0
Begins base upto (Ok restore) = IsBegun base upto restore
Begins base upto (Err (faults.Early zxid)) = (is_early base upto ≡ true) × (zxid ≡ exact_of base)
Begins base upto (Err faults.Tree) = (is_early base upto ≡ false) × (base_fault base ≡ Some base_faults.Tree)
Begins base upto (Err faults.Access) = (is_early base upto ≡ false) × (base_fault base ≡ Some base_faults.Access)
Begins base upto (Err faults.NoMemory) = is_early base upto ≡ false
Begins base upto (Err fault) = ⊥

-- ---- one entry

abbrev pub StageAfter : Turn → Stage → ℤ → NewerRecord → Stage → Type 0
StageAfter Take old exact newer new = Takes old exact newer new × (take_fault old exact newer ≡ None)
StageAfter turn old exact newer new = new ≡ old

-- the record's digest was compared, if the entry was taken
abbrev pub CountsEntry : Turn → Restore → NewerRecord → Restore → Type 0
CountsEntry Take old newer new = Counts old.stage old.digests newer new.stage new.digests
CountsEntry turn old newer new = new.digests ≡ old.digests

pub record IsAfterEntry (old : Restore) (entry : FileEntry) (new : Restore) (turn : Turn) : Type 0 where
  pub decided : decision (history_of old.chain) entry ≡ Ok turn
  pub history : history_of new.chain ≡ after_turn (history_of old.chain) (told_of entry) turn
  pub exact : new.exact ≡ old.exact
  pub stage : StageAfter turn old.stage old.exact entry.newer new.stage
  pub counted : CountsEntry turn old entry.newer new

abbrev pub Goes : Restore → FileEntry → Result (Restore × Turn) RestoreFault → Type 0
Goes old entry (Ok next) = IsAfterEntry old entry next.0 next.1
Goes old entry (Err (faults.Purged first)) = decision (history_of old.chain) entry ≡ Err (faults.Purged first)
Goes old entry (Err (faults.Gap from to)) = decision (history_of old.chain) entry ≡ Err (faults.Gap from to)
Goes old entry (Err (faults.Differs at)) = decision (history_of old.chain) entry ≡ Err (faults.Differs at)
Goes old entry (Err faults.Tree) = (decision (history_of old.chain) entry ≡ Ok Take) × (take_fault old.stage old.exact entry.newer ≡ Some base_faults.Tree)
Goes old entry (Err faults.Access) = (decision (history_of old.chain) entry ≡ Ok Take) × (take_fault old.stage old.exact entry.newer ≡ Some base_faults.Access)
Goes old entry (Err faults.NoMemory) = Unit {0}
Goes old entry (Err fault) = ⊥

-- ---- entries in order

-- the stage after records
abbrev pub Replays : Stage → ℤ → List NewerRecord → Stage → Type 0
Replays old exact [] new = new ≡ old
Replays old exact (newer ∷ records) new = (middle : Stage) × Takes old exact newer middle × Replays middle exact records new

-- the digests of records were compared, for any tally before
abbrev pub Follows : Restore → List NewerRecord → Restore → Type 0
Follows old records new = (tally : Tally) → IsTallied old.stage old.digests tally → (end : Tally) × Tallies old.stage tally old.exact records new.stage end × IsTallied new.stage new.digests end

abbrev pub window_of : Stage → ℤ → Window
window_of (stages.Window draft last) exact = Some (draft, exact)
window_of (stages.Table table) exact = None

-- how far a restoration has read, with these records
abbrev pub reading_with : Restore → List NewerRecord → Bool → Reading
reading_with restore records over = record { history = history_of restore.chain; records = records; window = window_of restore.stage restore.exact; is_over = over }

abbrev pub reading_of : Restore → Reading
reading_of restore = reading_with restore [] false

pub record IsAfterFile (old : Restore) (file : LogFile) (new : Restore) (goes_on : Bool) : Type 0 where
  pub records : List NewerRecord
  pub read : read_file (reading_of old) file ≡ Ok (reading_with new records (not goes_on))
  pub exact : new.exact ≡ old.exact
  pub stage : Replays old.stage old.exact records new.stage
  pub counted : Follows old records new

-- the first fault, unless allocation failed
abbrev pub IsFaultOf : Result Reading RestoreFault → RestoreFault → Type 0
IsFaultOf read faults.NoMemory = Unit {0}
IsFaultOf read (faults.Early exact) = ⊥
IsFaultOf read (faults.Short exact) = ⊥
IsFaultOf read fault = read ≡ Err fault

abbrev pub GoesThrough : Restore → LogFile → Result (Restore × Bool) RestoreFault → Type 0
GoesThrough old file (Ok next) = IsAfterFile old file next.0 next.1
GoesThrough old file (Err fault) = IsFaultOf (read_file (reading_of old) file) fault

-- ---- the end

-- the entries end before the snapshot is exact
abbrev pub is_short : Restore → Bool
is_short restore = is_before restore.chain.position restore.exact

pub record IsFinished (restore : Restore) (table : FoldView) : Type 0 where
  pub long : is_short restore ≡ false
  pub whole : finish_fault restore.stage ≡ None
  pub state : IsRestored restore.stage table.state

abbrev pub Finishes : Restore → Result FoldView RestoreFault → Type 0
Finishes restore (Ok table) = IsFinished restore table
Finishes restore (Err (faults.Short zxid)) = (is_short restore ≡ true) × (zxid ≡ restore.exact)
Finishes restore (Err faults.NoMemory) = is_short restore ≡ false
Finishes restore (Err faults.Tree) = (is_short restore ≡ false) × (finish_fault restore.stage ≡ Some base_faults.Tree)
Finishes restore (Err faults.Access) = (is_short restore ≡ false) × (finish_fault restore.stage ≡ Some base_faults.Access)
Finishes restore (Err fault) = ⊥
