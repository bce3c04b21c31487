-- The contract of converting a log, over the bytes of its reader, where they are known.
use Rattle.std.specs.Prelude.{◌≡◌, ℕ, ◌+◌, ℤ, List, ◌++◌, Option, None, Some, Result, Ok, Err, FitsSigned}
use Rattle.std.specs.Int.{w64}
use Rattle.zk_log.specs.Devices.{reads_of, read_failures_of}
use Rattle.zk_records.specs.Written.{header_of}
use Rattle.zk_log.specs.Logs.{HasNoHeader}
use Rattle.zk_log.specs.declared.fault.LogFault.TheVariants as log_faults
use Rattle.zk_log.specs.declared.source.Source.{Source}
use Rattle.zk_newer_records.specs.declared.newer_record.NewerRecord.{NewerRecord}
use Rattle.zk_mend.specs.NewerLogs.{start_place, after_all, txns_in, Mends}
use Rattle.zk_mend.specs.Telling.{told_of}
use Rattle.zk_mend.specs.declared.fault.MendFault.{MendFault}
use Rattle.zk_mend.specs.declared.fault.MendFault.TheVariants as faults
use Rattle.zk_mend.specs.declared.mended.Mended.{Mended}

-- ---- whole logs

-- Entries of records that may each come next, and a rest that is an ending. The result is the list
-- of the transactions that the records represent.
pub record IsMendedBody (body : List ℕ) (mended : Mended) : Type 0 where
  pub newers : List NewerRecord
  pub mends : Mends start_place body newers (Ok mended.ending)
  pub journal : mended.journal ≡ txns_in newers
  pub told : mended.told ≡ told_of (txns_in newers) (after_all start_place newers).told

-- A 3.5 to 3.8 server's log: the header, and such entries.
pub record IsMended (bytes : List ℕ) (mended : Mended) : Type 0 where
  pub dbid_fits : FitsSigned w64 mended.dbid
  pub body : List ℕ
  pub spelled : bytes ≡ header_of mended.dbid ++ body
  pub entries : IsMendedBody body mended

-- A log that can be converted up to the offset of the fault.
pub record IsUnmendedAt (bytes : List ℕ) (fault : MendFault) : Type 0 where
  pub dbid : ℤ
  pub dbid_fits : FitsSigned w64 dbid
  pub body : List ℕ
  pub spelled : bytes ≡ header_of dbid ++ body
  pub newers : List NewerRecord
  pub entries : Mends start_place body newers (Err fault)

-- the fault of a rejected file
abbrev pub IsUnmended : List ℕ → MendFault → Type 0
IsUnmended bytes (faults.Log log_faults.Header) = HasNoHeader bytes
IsUnmended bytes fault = IsUnmendedAt bytes fault

-- ---- the result

-- after a failed read, the last turn or an allocation failure, nothing is specified of the bytes
abbrev pub Answers : Option (List ℕ) → Result Mended MendFault → Type 0
Answers None answer = Unit {0}
Answers (Some bytes) (Ok mended) = IsMended bytes mended
Answers (Some bytes) (Err (faults.Log log_faults.Read)) = Unit {0}
Answers (Some bytes) (Err (faults.Log log_faults.Endless)) = Unit {0}
Answers (Some bytes) (Err (faults.Log log_faults.NoMemory)) = Unit {0}
Answers (Some bytes) (Err fault) = IsUnmended bytes fault

-- the same for the bytes after a header
abbrev pub AnswersBody : Option (List ℕ) → Result Mended MendFault → Type 0
AnswersBody None answer = Unit {0}
AnswersBody (Some body) (Ok mended) = IsMendedBody body mended
AnswersBody (Some body) (Err (faults.Log log_faults.Read)) = Unit {0}
AnswersBody (Some body) (Err (faults.Log log_faults.Endless)) = Unit {0}
AnswersBody (Some body) (Err (faults.Log log_faults.NoMemory)) = Unit {0}
AnswersBody (Some body) (Err fault) = (newers : List NewerRecord) × Mends start_place body newers (Err fault)

-- Failed reads are counted and returned as errors, and all turns are used if the error says so.
abbrev pub Tells : {R T : Type 0} → Source R → ℕ → Result T MendFault → Source R → Type 0
Tells old turns (Err (faults.Log log_faults.Read)) new = read_failures_of new ≡ read_failures_of old + 1
Tells old turns (Err (faults.Log log_faults.Endless)) new = (read_failures_of new ≡ read_failures_of old) × (reads_of new ≡ reads_of old + turns)
Tells old turns answer new = read_failures_of new ≡ read_failures_of old
