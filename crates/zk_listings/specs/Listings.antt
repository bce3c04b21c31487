-- What `zk list` writes in a form: a line for each transaction of a data directory, or of a log.
use Rattle.std.specs.Prelude.{◌≡◌, ℕ, ℤ, List, map, Option, None, Result, Ok, Err}
use Rattle.std.specs.String.{string_bytes}
use Rattle.zk_directory_state.specs.Notices.{OutputsNoticed}
use Rattle.zk_directory_state.specs.Ranges.{unbounded}
use Rattle.zk_directory_state.specs.Records.{Answers, HaveNoAnswer}
use Rattle.zk_directory_state.specs.declared.notices.Noticed.{Noticed}
use Rattle.zk_directory_state.specs.declared.fault.HistoryFault.{HistoryFault}
use Rattle.zk_cli_args.specs.declared.form.Form.{Form}
use Rattle.zk_json_commands.specs.Logs.{TellsLoaded}
use Rattle.zk_log.specs.declared.source.Source.{Source}
use Rattle.zk_newer_records.specs.declared.newer_record.NewerRecord.{NewerRecord}
use Rattle.zk_path.specs.declared.memory.NoMemory.{NoMemory}
use Rattle.zk_records.specs.declared.sink.Sink.{Sink}
use Rattle.zk_table.specs.declared.txn.Txn.{Txn}
use Rattle.zk_listings.specs.Lines.{AppendsTxnLine, AreTxnLines}
use Rattle.zk_listings.specs.declared.lines.RecordLines.{RecordLines}

-- ---- a directory

abbrev pub txns_of : List NewerRecord → List Txn
txns_of records = map (λ newer. newer.txn) records

-- the lines of the directory's records, and the notice
abbrev pub AreLinesIn : Form → Option (List (List ℕ)) → Option (List (List ℕ)) → (List ℕ → Option (List ℕ)) → List ℕ → List ℕ → Type 0
AreLinesIn form snapshots logs log_bytes text notice = (records : List NewerRecord) × Answers unbounded snapshots logs log_bytes records notice × AreTxnLines form (txns_of records) text

abbrev pub FindsLines : Form → Option (List (List ℕ)) → Option (List (List ℕ)) → (List ℕ → Option (List ℕ)) → Result Noticed HistoryFault → Type 0
FindsLines form snapshots logs log_bytes (Ok noticed) = AreLinesIn form snapshots logs log_bytes (string_bytes noticed.text) (string_bytes noticed.notices)
FindsLines form snapshots logs log_bytes (Err fault) = HaveNoAnswer unbounded snapshots logs log_bytes fault

-- these lines are written, or why there are none
pub record TellsLines {O E : Type 0} (written : O → Option (List ℕ)) (told : E → Option (List ℕ)) (form : Form) (snapshots logs : Option (List (List ℕ))) (log_bytes : List ℕ → Option (List ℕ)) (output output' : Sink O) (faults faults' : Sink E) (result : Result ℕ NoMemory) : Type 0 where
  pub answer : Result Noticed HistoryFault
  pub finds : FindsLines form snapshots logs log_bytes answer
  pub outputs : OutputsNoticed written told answer output output' faults faults' result

-- ---- a log

abbrev pub no_notice : List Txn → Option ℤ
no_notice txns = None

abbrev pub TellsLogLines : {F O E : Type 0} → (F → Option (List ℕ)) → (O → Option (List ℕ)) → (E → Option (List ℕ)) → Form → Source F → Source F → Sink O → Sink O → Sink E → Sink E → Result ℕ NoMemory → Type 0
TellsLogLines remaining written told form file file' output output' faults faults' result = TellsLoaded remaining written told (AreTxnLines form) no_notice file file' output output' faults faults' result

-- ---- calls within

-- a record's line is appended
pub record AppendsRecord (old : RecordLines) (newer : NewerRecord) (new : RecordLines) : Type 0 where
  pub form : new.form ≡ old.form
  pub line : AppendsTxnLine old.form newer.txn (string_bytes old.text) (string_bytes new.text)
