-- What `zk sessions` and `zk session` write.
use Rattle.std.specs.Prelude.{ℕ, ℤ, List, Option, Result, Ok, Err}
use Rattle.std.specs.String.{string_bytes}
use Rattle.zk_directory_state.specs.Ranges.{unbounded}
use Rattle.zk_directory_state.specs.Records.{Answers}
use Rattle.zk_directory_state.specs.declared.fault.HistoryFault.{HistoryFault}
use Rattle.zk_directory_state.specs.declared.notices.Noticed.{Noticed}
use Rattle.zk_incidents.specs.HistoryReports.{HasNoHistory}
use Rattle.zk_newer_records.specs.declared.newer_record.NewerRecord.{NewerRecord}
use Rattle.zk_path.specs.declared.memory.NoMemory.{NoMemory}
use Rattle.zk_records.specs.declared.sink.Sink.{Sink}
use Rattle.zk_session_commands.specs.FoundOutputs.{OutputsFound}
use Rattle.zk_session_commands.specs.FirstKnown.{IsBeforeLogs}
use Rattle.zk_session_commands.specs.SessionLives.{IsLifeFrom, IsSessionText}
use Rattle.zk_session_commands.specs.declared.asked_session.AskedSession.{AskedSession}
use Rattle.zk_session_lines.specs.Rows.{AreRows}
use Rattle.zk_session_lines.specs.declared.line_form.LineForm.{LineForm}
use Rattle.zk_sessions.specs.Known.{after_all}
use Rattle.zk_sessions.specs.Lives.{found}
use Rattle.zk_sessions.specs.declared.known.Known.{Known}

-- ---- the directory

-- a text of what was known before, and of the records of the directory's logs, and the notice
abbrev pub IsTextIn : (Known → List NewerRecord → List ℕ → Type 0) → Option (List (List ℕ)) → (List ℕ → Option (List ℕ)) → Option (List (List ℕ)) → (List ℕ → Option (List ℕ)) → List ℕ → List ℕ → Type 0
IsTextIn IsText snapshots snapshot_bytes logs log_bytes text notice =
    (records : List NewerRecord) × Answers unbounded snapshots logs log_bytes records notice × ((known : Known) × IsBeforeLogs snapshots snapshot_bytes logs known × IsText known records text)

-- there is none where there is no history
abbrev pub FindsText : (Known → List NewerRecord → List ℕ → Type 0) → Option (List (List ℕ)) → (List ℕ → Option (List ℕ)) → Option (List (List ℕ)) → (List ℕ → Option (List ℕ)) → Result Noticed HistoryFault → Type 0
FindsText IsText snapshots snapshot_bytes logs log_bytes (Ok noticed) = IsTextIn IsText snapshots snapshot_bytes logs log_bytes (string_bytes noticed.text) (string_bytes noticed.notices)
FindsText IsText snapshots snapshot_bytes logs log_bytes (Err fault) = HasNoHistory snapshots snapshot_bytes logs log_bytes fault

-- such a text is written, or why there is none; with status 1 if it is empty
pub record TellsText {O E : Type 0} (written : O → Option (List ℕ)) (told : E → Option (List ℕ)) (IsText : Known → List NewerRecord → List ℕ → Type 0) (snapshots : Option (List (List ℕ))) (snapshot_bytes : List ℕ → Option (List ℕ)) (logs : Option (List (List ℕ))) (log_bytes : List ℕ → Option (List ℕ)) (output output' : Sink O) (faults faults' : Sink E) (result : Result ℕ NoMemory) : Type 0 where
  pub answer : Result Noticed HistoryFault
  pub finds : FindsText IsText snapshots snapshot_bytes logs log_bytes answer
  pub outputs : OutputsFound written told answer output output' faults faults' result

-- ---- the texts

-- a line for each session that is known after the records
abbrev pub IsSessions : LineForm → Known → List NewerRecord → List ℕ → Type 0
IsSessions form known records text = AreRows form (after_all known records).lives text

-- the line of a session, and those of its transactions
abbrev pub IsSession : LineForm → ℤ → Known → List NewerRecord → List ℕ → Type 0
IsSession form session known records text = (lines : List ℕ) × IsLifeFrom form session known records lines × IsSessionText form session (found (after_all known records).lives session) lines text

-- ---- the commands

abbrev pub TellsSessions : {O E : Type 0} → (O → Option (List ℕ)) → (E → Option (List ℕ)) → LineForm → Option (List (List ℕ)) → (List ℕ → Option (List ℕ)) → Option (List (List ℕ)) → (List ℕ → Option (List ℕ)) → Sink O → Sink O → Sink E → Sink E → Result ℕ NoMemory → Type 0
TellsSessions written told form snapshots snapshot_bytes logs log_bytes output output' faults faults' result = TellsText written told (IsSessions form) snapshots snapshot_bytes logs log_bytes output output' faults faults' result

abbrev pub TellsSession : {O E : Type 0} → (O → Option (List ℕ)) → (E → Option (List ℕ)) → AskedSession → Option (List (List ℕ)) → (List ℕ → Option (List ℕ)) → Option (List (List ℕ)) → (List ℕ → Option (List ℕ)) → Sink O → Sink O → Sink E → Sink E → Result ℕ NoMemory → Type 0
TellsSession written told asked snapshots snapshot_bytes logs log_bytes output output' faults faults' result = TellsText written told (IsSession asked.form asked.session) snapshots snapshot_bytes logs log_bytes output output' faults faults' result
