-- The iteration over a log's entries.
use Rattle.std.specs.Prelude.{◌≡◌, ℕ, ◌≤◌, pos, false, List, [], ◌∷◌, ◌++◌, Option, Some, None, Result, Ok, Err}
use Rattle.std.specs.Io.KnownBytes.{Consumes}
use Rattle.std.specs.List.{flat_map}
use Rattle.zk_mend.specs.Following.{IsDigestOf}
use Rattle.zk_records.specs.Checksum.{adler_of}
use Rattle.zk_log.specs.Cutting.{IsEntry}
use Rattle.zk_records.specs.Written.{last_of}
use Rattle.zk_log.specs.declared.fault.LogFault.TheVariants as log_faults
use Rattle.zk_log.specs.declared.loaded.Ending.{Ending}
use Rattle.zk_newer_records.specs.NewerRecords.{IsSpelled}
use Rattle.zk_newer_records.specs.declared.newer_record.NewerRecord.{NewerRecord}
use Rattle.zk_mend.specs.NewerLogs.{LogPosition, start_place, after_all, after_record, newer_entry, txns_in, refusal, refusal_by, lists_others, AllMayCome, IsMendFault, Mends}
use Rattle.zk_mend.specs.declared.fault.MendFault.{MendFault}
use Rattle.zk_mend.specs.declared.fault.MendFault.TheVariants as faults
use Rattle.zk_mend.specs.declared.walk.Walk.{Walk}
use Rattle.zk_mend.specs.declared.walk.Verdict.{Verdict}
use Rattle.zk_mend.specs.declared.walk.Verdict.TheVariants as verdicts

-- an iteration is at a position
pub record IsAt (walk : Walk) (place : LogPosition) : Type 0 where
  pub at : walk.at ≡ place.at
  pub last : last_of (pos 0) walk.journal ≡ place.last
  pub state : walk.machine.state ≡ place.state
  pub runs : walk.machine.failed ≡ false
  pub steps : walk.machine.steps ≤ walk.at
  pub digest : IsDigestOf place.owners place.state.nodes walk.digest
  pub told : walk.told ≡ place.told

-- the decision on a record: it may come next, and whether it lists other paths; or its fault
abbrev pub Judges : Walk → NewerRecord → Verdict → Type 0
Judges walk newer (verdicts.Goes others) = (refusal_by walk.at (last_of (pos 0) walk.journal) walk.machine.state.nodes newer ≡ None) × (others ≡ lists_others walk.machine.state.nodes newer.txn.session newer.form)
Judges walk newer (verdicts.Refused fault) = refusal_by walk.at (last_of (pos 0) walk.journal) walk.machine.state.nodes newer ≡ Some fault

-- a record that comes next was consumed
pub record Follows (place : LogPosition) (old : Walk) (newer : NewerRecord) (new : Walk) : Type 0 where
  pub comes : IsAt new (after_record place newer)
  pub pushed : new.journal ≡ old.journal ++ newer.txn ∷ []

pub record TakesNewer (place : LogPosition) (old : Walk) (newer : NewerRecord) (new : Walk) : Type 0 where
  pub goes : refusal place newer ≡ None
  pub follows : Follows place old newer new

-- a record has this fault
abbrev pub RefusesNewer : LogPosition → NewerRecord → MendFault → Type 0
RefusesNewer place newer (faults.Log log_faults.NoMemory) = Unit {0}
RefusesNewer place newer fault = refusal place newer ≡ Some fault

-- a record was consumed
pub record Takes (place : LogPosition) (old : Walk) (bytes : List ℕ) (sum : ℕ) (new : Walk) : Type 0 where
  pub newer : NewerRecord
  pub sum_is : sum ≡ adler_of bytes
  pub spelled : IsSpelled bytes newer
  pub taken : TakesNewer place old newer new

-- the record of a whole entry has this fault, at any offset
abbrev pub Refuses : LogPosition → List ℕ → ℕ → MendFault → Type 0
Refuses place bytes sum (faults.Log log_faults.NoMemory) = Unit {0}
Refuses place bytes sum fault = (held : List ℕ) → IsEntry held sum bytes → IsMendFault place held fault

-- no failure of the reader
abbrev pub IsOwnFault : MendFault → Type 0
IsOwnFault (faults.Log log_faults.Header) = ⊥
IsOwnFault (faults.Log log_faults.Read) = ⊥
IsOwnFault (faults.Log log_faults.Endless) = ⊥
IsOwnFault fault = Unit {0}

-- the entries that were read: some records were consumed
pub record Walked (all now : Option (List ℕ)) (walk : Walk) : Type 0 where
  pub newers : List NewerRecord
  pub come : AllMayCome start_place newers
  pub is_at : IsAt walk (after_all start_place newers)
  pub journal : walk.journal ≡ txns_in newers
  pub taken : Consumes all now (flat_map newer_entry newers)

-- how the iteration over all entries ends
pub record WalksTo (bytes : List ℕ) (walk : Walk) (ending : Ending) : Type 0 where
  pub newers : List NewerRecord
  pub mends : Mends start_place bytes newers (Ok ending)
  pub is_at : IsAt walk (after_all start_place newers)
  pub journal : walk.journal ≡ txns_in newers

abbrev pub Walks : Option (List ℕ) → Result Ending MendFault → Walk → Type 0
Walks None answer walk = Unit {0}
Walks (Some bytes) (Ok ending) walk = WalksTo bytes walk ending
Walks (Some bytes) (Err (faults.Log log_faults.Read)) walk = Unit {0}
Walks (Some bytes) (Err (faults.Log log_faults.Endless)) walk = Unit {0}
Walks (Some bytes) (Err (faults.Log log_faults.NoMemory)) walk = Unit {0}
Walks (Some bytes) (Err fault) walk = (newers : List NewerRecord) × Mends start_place bytes newers (Err fault)
