-- The state that a history leads to: the window of a snapshot is replayed on the snapshot's nodes,
-- and each later transaction is applied by the rules of the table.
use Rattle.std.specs.Prelude.{◌≡◌, ℤ, int_le, List, [], ◌∷◌, map, if◌then◌else◌}
use Rattle.zk_table.specs.declared.txn.Txn.{Txn}
use Rattle.zk_table.specs.Histories.{state_after}
use Rattle.zk_table.specs.States.{State}
use Rattle.zk_newer_records.specs.declared.newer_record.NewerRecord.{NewerRecord}
use Rattle.zk_replay.specs.Bases.{IsSettled}
use Rattle.zk_replay.specs.declared.draft.Draft.{Draft}
use Rattle.zk_replay.specs.Rules.{nodes_replayed, sessions_replayed}
use Rattle.zk_replay.specs.declared.stage.Stage.{Stage}
use Rattle.zk_replay.specs.declared.stage.Stage.TheVariants as stages

abbrev pub txn_of : NewerRecord → Txn
txn_of newer = newer.txn

-- ---- the window

-- the records up to the zxid from which the snapshot is exact
unfoldable pub in_window : ℤ → List NewerRecord → List NewerRecord
in_window exact [] = []
in_window exact (newer ∷ records) = if int_le newer.txn.zxid exact then newer ∷ in_window exact records else []

-- the records from the first one above it on
unfoldable pub after_window : ℤ → List NewerRecord → List NewerRecord
after_window exact [] = []
after_window exact (newer ∷ records) = if int_le newer.txn.zxid exact then after_window exact records else newer ∷ records

abbrev pub replayed_one : Draft → NewerRecord → Draft
replayed_one draft newer = record { nodes = nodes_replayed draft.nodes newer; sessions = sessions_replayed draft.sessions newer.txn }

-- the draft after records, in order
unfoldable pub replayed : Draft → List NewerRecord → Draft
replayed draft [] = draft
replayed draft (newer ∷ records) = replayed (replayed_one draft newer) records

-- the zxid of the last record, or else this one
unfoldable pub last_of : ℤ → List NewerRecord → ℤ
last_of zxid [] = zxid
last_of zxid (newer ∷ records) = last_of newer.txn.zxid records

-- ---- the state

-- from a draft of the zxid `last`
pub record IsStateFrom (draft : Draft) (last exact : ℤ) (records : List NewerRecord) (state : State) : Type 0 where
  -- the state at the end of the window
  pub base : State
  pub settled : IsSettled (replayed draft (in_window exact records)) (last_of last (in_window exact records)) base
  pub applied : state ≡ state_after base (map txn_of (after_window exact records))

-- from a stage on
abbrev pub IsStateAfter : Stage → ℤ → List NewerRecord → State → Type 0
IsStateAfter (stages.Window draft last) exact records state = IsStateFrom draft last exact records state
IsStateAfter (stages.Table table) exact records state = state ≡ state_after table.state (map txn_of records)
