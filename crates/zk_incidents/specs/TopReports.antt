-- What `zk top` writes.
use Rattle.std.specs.Prelude.{◌≡◌, ℕ, List, Option, Result, Ok, Err}
use Rattle.std.specs.String.{string_bytes}
use Rattle.zk_directory_state.specs.Notices.{OutputsNoticed}
use Rattle.zk_directory_state.specs.Records.{Answers, HaveNoAnswer}
use Rattle.zk_directory_state.specs.declared.notices.Noticed.{Noticed}
use Rattle.zk_directory_state.specs.declared.range.Range.{Range}
use Rattle.zk_directory_state.specs.declared.fault.HistoryFault.{HistoryFault}
use Rattle.zk_incidents.specs.Tops.{top_text}
use Rattle.zk_incidents.specs.declared.top_fold.Key.{Key}
use Rattle.zk_newer_records.specs.declared.newer_record.NewerRecord.{NewerRecord}
use Rattle.zk_path.specs.declared.memory.NoMemory.{NoMemory}
use Rattle.zk_records.specs.declared.sink.Sink.{Sink}

-- the lines of the directory's records, and the notice
abbrev pub IsTopIn : Range → Key → Option ℕ → Option (List (List ℕ)) → Option (List (List ℕ)) → (List ℕ → Option (List ℕ)) → List ℕ → List ℕ → Type 0
IsTopIn range key number snapshots logs log_bytes text notice = (records : List NewerRecord) × Answers range snapshots logs log_bytes records notice × (text ≡ top_text range key number records)

abbrev pub FindsTop : Range → Key → Option ℕ → Option (List (List ℕ)) → Option (List (List ℕ)) → (List ℕ → Option (List ℕ)) → Result Noticed HistoryFault → Type 0
FindsTop range key number snapshots logs log_bytes (Ok noticed) = IsTopIn range key number snapshots logs log_bytes (string_bytes noticed.text) (string_bytes noticed.notices)
FindsTop range key number snapshots logs log_bytes (Err fault) = HaveNoAnswer range snapshots logs log_bytes fault

-- the paths or sessions with the most writes are written, or why there are none
pub record TellsTop {O E : Type 0} (written : O → Option (List ℕ)) (told : E → Option (List ℕ)) (range : Range) (key : Key) (number : Option ℕ) (snapshots logs : Option (List (List ℕ))) (log_bytes : List ℕ → Option (List ℕ)) (output output' : Sink O) (faults faults' : Sink E) (result : Result ℕ NoMemory) : Type 0 where
  pub answer : Result Noticed HistoryFault
  pub finds : FindsTop range key number snapshots logs log_bytes answer
  pub outputs : OutputsNoticed written told answer output output' faults faults' result
