-- The digests that the records of a history state: how many are those of the trees that the records
-- lead to. In the window of a snapshot no tree is known, and none is counted.
use Rattle.std.specs.Prelude.{◌≡◌, ℤ, List, [], ◌∷◌}
use Rattle.zk_table.specs.States.{State, start_state}
use Rattle.zk_replay.specs.Bases.{IsDraftOf, IsSettled}
use Rattle.zk_replay.specs.declared.draft.Draft.{Draft}
use Rattle.zk_replay.specs.Tallies.{IsFollowed, IsTally, Tally, all_passed, all_taken, start_tally, stored_tally, tally_passed, tally_taken}
use Rattle.zk_replay.specs.declared.count.DigestCount.{DigestCount}
use Rattle.zk_replay.specs.declared.digests.Digests.{Digests}
use Rattle.zk_newer_records.specs.declared.newer_record.NewerRecord.{NewerRecord}
use Rattle.zk_replay.specs.Restoring.{Takes}
use Rattle.zk_replay.specs.declared.stage.Stage.{Stage}
use Rattle.zk_replay.specs.declared.stage.Stage.TheVariants as stages
use Rattle.zk_directory_state.specs.States.{after_window, in_window, last_of, replayed}
use Rattle.zk_directory_state.specs.declared.restoration.Base.{Base}
use Rattle.zk_directory_state.specs.declared.restoration.Base.TheVariants as bases

-- ---- whole histories

-- from a draft of the zxid `last`
pub record IsCountFrom (draft : Draft) (last exact : ℤ) (records : List NewerRecord) (start : Tally) (count : DigestCount) : Type 0 where
  -- the state at the end of the window
  pub base : State
  pub settled : IsSettled (replayed draft (in_window exact records)) (last_of last (in_window exact records)) base
  pub counted : count ≡ (all_taken (all_passed start (in_window exact records)) base (after_window exact records)).count

abbrev pub IsCountOf : Base → List NewerRecord → DigestCount → Type 0
IsCountOf bases.Empty records count = count ≡ (all_taken start_tally start_state records).count
IsCountOf (bases.Snapshot contents zxid exact) records count = (draft : Draft) × IsDraftOf contents.now draft × IsCountFrom draft zxid exact records (stored_tally contents.now) count

-- ---- calls within

-- the owners and the count before any record
abbrev pub first_tally : Base → Tally
first_tally bases.Empty = start_tally
first_tally (bases.Snapshot contents zxid exact) = stored_tally contents.now

-- after a record that led to a stage
abbrev pub tally_next : Tally → NewerRecord → Stage → Tally
tally_next tally newer (stages.Window draft last) = tally_passed tally newer
tally_next tally newer (stages.Table table) = tally_taken tally newer table.state.nodes

abbrev pub IsTallied : Stage → Digests → Tally → Type 0
IsTallied (stages.Window draft last) digests tally = IsTally digests tally
IsTallied (stages.Table table) digests tally = IsFollowed digests tally table.state.nodes

-- a record was counted
abbrev pub Counts : Stage → Digests → NewerRecord → Stage → Digests → Type 0
Counts old digests newer new digests' = (tally : Tally) → IsTallied old digests tally → IsTallied new digests' (tally_next tally newer new)

-- the stage and the tally after records
abbrev pub Tallies : Stage → Tally → ℤ → List NewerRecord → Stage → Tally → Type 0
Tallies old tally exact [] new end = (new ≡ old) × (end ≡ tally)
Tallies old tally exact (newer ∷ records) new end = (middle : Stage) × Takes old exact newer middle × Tallies middle (tally_next tally newer middle) exact records new end
