-- What `zk restore` writes: the script of a node and those below it, as of a transaction.
use Rattle.std.specs.Prelude.{◌≡◌, ◌++◌, ℕ, List, Option, Some, None, Result, Ok, Err, String, true, false, codes}
use Rattle.std.specs.FinMap.{contains_key}
use Rattle.std.specs.Global.{Global}
use Rattle.std.specs.String.{string_bytes}
use Rattle.zk_directory_state.specs.Histories.{Holds}
use Rattle.zk_directory_state.specs.Notices.{OutputsWith, notices_of}
use Rattle.zk_directory_state.specs.declared.history.Shown.{Shown}
use Rattle.zk_directory_state.specs.declared.upto.Upto.{Upto}
use Rattle.zk_directory_state.specs.Outcomes.{Rejects, TellsLine}
use Rattle.zk_directory_state.specs.declared.fault.HistoryFault.{HistoryFault}
use Rattle.zk_format.specs.Spelling.{quoted}
use Rattle.zk_log_commands.specs.Writing.{LeavesSink}
use Rattle.zk_path.specs.declared.memory.NoMemory.{NoMemory}
use Rattle.zk_records.specs.declared.sink.Sink.{Sink}
use Rattle.zk_tree_changes.specs.Scripts.{script}
use Rattle.zk_tree_changes.specs.declared.tree_script.Script.{Script}
use Rattle.zk_table.specs.States.{State}

-- in a state: the script of a node, or that there is no such node
abbrev pub IsScriptIn : State → List ℕ → Option (String Global) → Type 0
IsScriptIn state path (Some text) = (contains_key state.nodes path ≡ true) × (string_bytes text ≡ script path state)
IsScriptIn state path None = contains_key state.nodes path ≡ false

-- in the state up to a transaction, as `zk show` prints it
pub record IsScript (snapshots : Option (List (List ℕ))) (snapshot_bytes : List ℕ → Option (List ℕ)) (logs : Option (List (List ℕ))) (log_bytes : List ℕ → Option (List ℕ)) (upto : Upto) (path : List ℕ) (script : Script) : Type 0 where
  pub shown : Shown
  pub holds : Holds snapshots snapshot_bytes logs log_bytes upto (Ok shown)
  pub is : IsScriptIn shown.restored.table.state path script.text
  pub notices : string_bytes script.notices ≡ notices_of upto shown.restored

-- or the fault of a state that there is not
abbrev pub FindsScript : Option (List (List ℕ)) → (List ℕ → Option (List ℕ)) → Option (List (List ℕ)) → (List ℕ → Option (List ℕ)) → Upto → List ℕ → Result Script HistoryFault → Type 0
FindsScript snapshots snapshot_bytes logs log_bytes upto path (Ok script) = IsScript snapshots snapshot_bytes logs log_bytes upto path script
FindsScript snapshots snapshot_bytes logs log_bytes upto path (Err fault) = Holds snapshots snapshot_bytes logs log_bytes upto (Err fault)

-- the line for a node that a state does not have
unfoldable pub missing_line : List ℕ → List ℕ
missing_line path = codes "zk: no node " ++ quoted path ++ codes "\n"

abbrev pub TellsMissing : {E : Type 0} → (E → Option (List ℕ)) → List ℕ → Sink E → Sink E → Result ℕ NoMemory → Type 0
TellsMissing told path faults faults' result = TellsLine told (missing_line path) faults faults' result

-- a script and its notices, or that there is no such node
abbrev pub OutputsFound : {O E : Type 0} → (O → Option (List ℕ)) → (E → Option (List ℕ)) → List ℕ → Option (String Global) → List ℕ → Sink O → Sink O → Sink E → Sink E → Result ℕ NoMemory → Type 0
OutputsFound written told path (Some text) notices output output' faults faults' result = OutputsWith written told (string_bytes text) notices output output' faults faults' result
OutputsFound written told path None notices output output' faults faults' result = LeavesSink written output output' × TellsMissing told path faults faults' result

abbrev pub OutputsScript : {O E : Type 0} → (O → Option (List ℕ)) → (E → Option (List ℕ)) → List ℕ → Result Script HistoryFault → Sink O → Sink O → Sink E → Sink E → Result ℕ NoMemory → Type 0
OutputsScript written told path (Ok script) output output' faults faults' result = OutputsFound written told path script.text (string_bytes script.notices) output output' faults faults' result
OutputsScript written told path (Err fault) output output' faults faults' result = Rejects written told fault output output' faults faults' result

-- the script is written, or that there is no such node, or why there is no such state
pub record TellsScript {O E : Type 0} (written : O → Option (List ℕ)) (told : E → Option (List ℕ)) (snapshots : Option (List (List ℕ))) (snapshot_bytes : List ℕ → Option (List ℕ)) (logs : Option (List (List ℕ))) (log_bytes : List ℕ → Option (List ℕ)) (upto : Upto) (path : List ℕ) (output output' : Sink O) (faults faults' : Sink E) (result : Result ℕ NoMemory) : Type 0 where
  pub answer : Result Script HistoryFault
  pub finds : FindsScript snapshots snapshot_bytes logs log_bytes upto path answer
  pub outputs : OutputsScript written told path answer output output' faults faults' result
