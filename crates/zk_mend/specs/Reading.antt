-- Which reads the conversion of a log makes: none after a decision that the bytes so far allow, and
-- none after the end.
use Rattle.std.specs.Prelude.{◌≡◌, ℕ, ◌≤◌, ℤ, ◌⊎◌, List, ◌++◌, length, Option, Result, Ok, Err, FitsSigned}
use Rattle.std.specs.Int.{w64}
use Rattle.std.specs.Io.KnownBytes.{Consumes, prepend_known}
use Rattle.std.specs.List.{flat_map}
use Rattle.zk_log.specs.Devices.{reader_of, ends_of, last_read_of, MeetsEndLast}
use Rattle.zk_log.specs.Logs.{IsPart, IsOpenHeader}
use Rattle.zk_log.specs.declared.fault.LogFault.TheVariants as log_faults
use Rattle.zk_log.specs.declared.source.Source.{Source}
use Rattle.zk_mend.specs.NewerLogs.{start_place, newer_entry, AllMayCome}
use Rattle.zk_mend.specs.declared.fault.MendFault.{MendFault}
use Rattle.zk_mend.specs.declared.fault.MendFault.TheVariants as faults
use Rattle.zk_newer_records.specs.declared.newer_record.NewerRecord.{NewerRecord}
use Rattle.zk_records.specs.Written.{header_of}

-- ---- a prefix of a file

-- the entries of records that may each come next, and a part of another entry
pub record IsOpenBody (bytes : List ℕ) : Type 0 where
  pub newers : List NewerRecord
  pub part : List ℕ
  pub spelled : bytes ≡ flat_map newer_entry newers ++ part
  pub come : AllMayCome start_place newers
  pub open_part : IsPart part

pub record IsOpenLog (bytes : List ℕ) : Type 0 where
  pub dbid : ℤ
  pub dbid_fits : FitsSigned w64 dbid
  pub body : List ℕ
  pub spelled : bytes ≡ header_of dbid ++ body
  pub entries : IsOpenBody body

-- A prefix of a file that leaves the next decision open: no header yet, or the last entry is
-- incomplete.
abbrev pub IsOpen : List ℕ → Type 0
IsOpen bytes = IsOpenHeader bytes ⊎ IsOpenLog bytes

-- ---- a file

-- No read was made, or the last one returned a chunk while the bytes before it left the next
-- decision open. `start` are the file's known bytes, and `left` those that were not read.
abbrev pub ReadsSparingly : {R : Type 0} → Option (List ℕ) → Option (List ℕ) → Source R → Source R → Type 0
ReadsSparingly start left old new = (new ≡ old)
    ⊎ ((front : List ℕ) × (piece : List ℕ) × Consumes start left (front ++ piece) × IsOpen front × (length piece ≡ last_read_of new) × (length piece ≤ 65536))

-- At most one read meets the end, and it is the last one. A log is rejected before the end is met,
-- unless its header is too short.
abbrev pub MeetsEnd : {R T : Type 0} → Source R → Result T MendFault → Source R → Type 0
MeetsEnd old (Ok it) new = MeetsEndLast old new
MeetsEnd old (Err (faults.Log log_faults.Header)) new = MeetsEndLast old new
MeetsEnd old (Err fault) new = ends_of new ≡ ends_of old

-- if all turns were used, the bytes that were read leave the next decision open
abbrev pub NeedsMore : {T : Type 0} → Option (List ℕ) → Option (List ℕ) → Result T MendFault → Type 0
NeedsMore start left (Err (faults.Log log_faults.Endless)) = (front : List ℕ) × Consumes start left front × IsOpen front
NeedsMore start left answer = Unit {0}

-- ---- its entries

-- The bytes that were read of the entries: no read was made, or the last one was made while an
-- entry was incomplete.
abbrev pub LastInBody : {R : Type 0} → Source R → List ℕ → Source R → List ℕ → Type 0
LastInBody old held new seen = ((new ≡ old) × (seen ≡ held))
    ⊎ ((front : List ℕ) × (piece : List ℕ) × (seen ≡ front ++ piece) × IsOpenBody front × (length piece ≡ last_read_of new) × (length piece ≤ 65536))

-- some records' entries were consumed, and these bytes are held
pub record BodyLast {R : Type 0} (remaining : R → Option (List ℕ)) (old : Source R) (held : List ℕ) (new : Source R) (held' : List ℕ) : Type 0 where
  pub newers : List NewerRecord
  pub come : AllMayCome start_place newers
  pub taken : Consumes (prepend_known held (remaining (reader_of old))) (prepend_known held' (remaining (reader_of new))) (flat_map newer_entry newers)
  pub last : LastInBody old held new (flat_map newer_entry newers ++ held')

-- if all turns were used, the held bytes are a part of an entry
abbrev pub BodyNeedsMore : {T : Type 0} → Result T MendFault → List ℕ → Type 0
BodyNeedsMore (Err (faults.Log log_faults.Endless)) held = IsPart held
BodyNeedsMore answer held = Unit {0}
