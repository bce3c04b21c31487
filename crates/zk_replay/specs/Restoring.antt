-- A history that continues from a snapshot: its window is replayed on a draft, and later records
-- are applied to the table.
use Rattle.std.specs.Prelude.{◌≡◌, ℤ, Bool, true, false, int_le, Option, None, if◌then◌else◌}
use Rattle.zk_table.specs.States.{State}
use Rattle.zk_table.specs.Steps.{step}
use Rattle.zk_newer_records.specs.declared.newer_record.NewerRecord.{NewerRecord}
use Rattle.zk_replay.specs.Bases.{IsSettled, draft_fault}
use Rattle.zk_replay.specs.declared.draft.Draft.{Draft}
use Rattle.zk_replay.specs.declared.fault.BaseFault.{BaseFault}
use Rattle.zk_replay.specs.Rules.{nodes_replayed, sessions_replayed}
use Rattle.zk_replay.specs.declared.stage.Stage.{Stage}
use Rattle.zk_replay.specs.declared.stage.Stage.TheVariants as stages

-- a record of the window was replayed
pub record IsReplayed (old : Draft) (record_of : NewerRecord) (new : Draft) : Type 0 where
  pub nodes : new.nodes ≡ nodes_replayed old.nodes record_of
  pub sessions : new.sessions ≡ sessions_replayed old.sessions record_of.txn

-- the window continues after a record
abbrev pub StaysInWindow : Draft → NewerRecord → Stage → Type 0
StaysInWindow old record_of (stages.Window new last) = IsReplayed old record_of new × (last ≡ record_of.txn.zxid)
StaysInWindow old record_of (stages.Table table) = ⊥

-- the window is over, and the table has this state
abbrev pub IsTableIn : State → Stage → Type 0
IsTableIn state (stages.Window draft last) = ⊥
IsTableIn state (stages.Table table) = (table.state ≡ state) × (table.failed ≡ false)

-- the first record after the window: the draft is settled, and the record is applied
pub record LeavesWindow (old : Draft) (last : ℤ) (record_of : NewerRecord) (new : Stage) : Type 0 where
  pub base : State
  pub settled : IsSettled old last base
  pub applied : IsTableIn (step base record_of.txn).0 new

abbrev pub TakesInWindow : Bool → Draft → ℤ → NewerRecord → Stage → Type 0
TakesInWindow true old last record_of new = StaysInWindow old record_of new
TakesInWindow false old last record_of new = LeavesWindow old last record_of new

-- a record was applied, if the snapshot is exact from this zxid on
abbrev pub Takes : Stage → ℤ → NewerRecord → Stage → Type 0
Takes (stages.Window draft last) exact record_of new = TakesInWindow (int_le record_of.txn.zxid exact) draft last record_of new
Takes (stages.Table table) exact record_of new = IsTableIn (step table.state record_of.txn).0 new

-- the table that the records lead to
abbrev pub IsRestored : Stage → State → Type 0
IsRestored (stages.Window draft last) state = IsSettled draft last state
IsRestored (stages.Table table) state = state ≡ table.state

-- ---- when there is none

-- the fault with which a record is rejected: the draft's, if the record ends the window
abbrev pub take_fault : Stage → ℤ → NewerRecord → Option BaseFault
take_fault (stages.Window draft last) exact record_of = if int_le record_of.txn.zxid exact then None else draft_fault draft
take_fault (stages.Table table) exact record_of = None

-- the draft's fault, if the records end in the window
abbrev pub finish_fault : Stage → Option BaseFault
finish_fault (stages.Window draft last) = draft_fault draft
finish_fault (stages.Table table) = None
