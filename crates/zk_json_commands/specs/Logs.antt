-- What is written for a log: lines, and the notice on it, or the line of its fault.
use Rattle.std.specs.Prelude.{◌≡◌, ◌⊎◌, ℕ, ℤ, List, ◌++◌, Option, Some, Result, Ok, Err}
use Rattle.zk_log.specs.declared.fault.LogFault.{LogFault}
use Rattle.zk_log.specs.declared.fault.LogFault.TheVariants as log_faults
use Rattle.zk_log.specs.declared.loaded.Loaded.{Loaded}
use Rattle.zk_log.specs.declared.source.Source.{Source}
use Rattle.zk_log_commands.specs.FaultLines.{line_of_log_fault}
use Rattle.zk_log_commands.specs.Notices.{begins_within}
use Rattle.zk_log_commands.specs.Showing.{shown_of}
use Rattle.zk_log_commands.specs.Telling.{GivesUp, Loads, OutputsNothing, OutputsNoted}
use Rattle.zk_log_commands.specs.Writing.{LeavesSink}
use Rattle.zk_path.specs.declared.memory.NoMemory.{NoMemory}
use Rattle.zk_records.specs.declared.sink.Sink.{Sink}
use Rattle.zk_table.specs.Histories.{tree_of}
use Rattle.zk_table.specs.declared.txn.Txn.{Txn}
use Rattle.zk_json.specs.Json.{IsLineOf, object_of}
use Rattle.zk_json_commands.specs.States.{AreTreeLines, ending_fields}

-- such a text is written, and then the notice; an allocation failure may come before any of it
abbrev pub OutputsSuch : {O E : Type 0} → (O → Option (List ℕ)) → (E → Option (List ℕ)) → (List ℕ → Type 0) → Option ℤ → Sink O → Sink O → Sink E → Sink E → Result ℕ NoMemory → Type 0
OutputsSuch written told is_text notice output output' faults faults' (Ok status) =
    (text : List ℕ) × is_text text × OutputsNoted written told text notice output output' faults faults' (Ok status)
OutputsSuch written told is_text notice output output' faults faults' (Err refused) =
    ((text : List ℕ) × is_text text × OutputsNoted written told text notice output output' faults faults' (Err refused))
    ⊎ (LeavesSink written output output' × LeavesSink told faults faults')

abbrev pub OutputsLoaded : {O E : Type 0} → (O → Option (List ℕ)) → (E → Option (List ℕ)) → (List Txn → List ℕ → Type 0) → (List Txn → Option ℤ) → Result Loaded LogFault → Sink O → Sink O → Sink E → Sink E → Result ℕ NoMemory → Type 0
OutputsLoaded written told are_lines notice_of (Ok loaded) output output' faults faults' result = OutputsSuch written told (are_lines loaded.txns) (notice_of loaded.txns) output output' faults faults' result
OutputsLoaded written told are_lines notice_of (Err log_faults.NoMemory) output output' faults faults' result = GivesUp written told output output' faults faults' result
OutputsLoaded written told are_lines notice_of (Err fault) output output' faults faults' result = OutputsNothing written told (line_of_log_fault fault) output output' faults faults' result

-- a log is loaded, and the lines of its transactions and the notice on them written
pub record TellsLoaded {F O E : Type 0} (remaining : F → Option (List ℕ)) (written : O → Option (List ℕ)) (told : E → Option (List ℕ)) (are_lines : List Txn → List ℕ → Type 0) (notice_of : List Txn → Option ℤ) (file file' : Source F) (output output' : Sink O) (faults faults' : Sink E) (result : Result ℕ NoMemory) : Type 0 where
  pub answer : Result Loaded LogFault
  pub loads : Loads remaining file file' 1048576 answer
  pub outputs : OutputsLoaded written told are_lines notice_of answer output output' faults faults' result

-- ---- a tree

-- the tree after the transactions up to the requested one, and how the log ends
pub record AreLogLines (upto : Option ℤ) (loaded : Loaded) (text : List ℕ) : Type 0 where
  pub tree : List ℕ
  pub is_tree : AreTreeLines (tree_of (shown_of upto loaded.txns)) tree
  pub ending : List ℕ
  pub is_ending : IsLineOf (object_of (ending_fields (Some loaded.ending))) ending
  pub is : text ≡ tree ++ ending

abbrev pub OutputsLog : {O E : Type 0} → (O → Option (List ℕ)) → (E → Option (List ℕ)) → Option ℤ → Result Loaded LogFault → Sink O → Sink O → Sink E → Sink E → Result ℕ NoMemory → Type 0
OutputsLog written told upto (Ok loaded) output output' faults faults' result = OutputsSuch written told (AreLogLines upto loaded) (begins_within loaded.txns) output output' faults faults' result
OutputsLog written told upto (Err log_faults.NoMemory) output output' faults faults' result = GivesUp written told output output' faults faults' result
OutputsLog written told upto (Err fault) output output' faults faults' result = OutputsNothing written told (line_of_log_fault fault) output output' faults faults' result

-- a log is loaded, and the lines of its report and the notice on it written
pub record TellsLogState {F O E : Type 0} (remaining : F → Option (List ℕ)) (written : O → Option (List ℕ)) (told : E → Option (List ℕ)) (upto : Option ℤ) (file file' : Source F) (output output' : Sink O) (faults faults' : Sink E) (result : Result ℕ NoMemory) : Type 0 where
  pub answer : Result Loaded LogFault
  pub loads : Loads remaining file file' 1048576 answer
  pub outputs : OutputsLog written told upto answer output output' faults faults' result
