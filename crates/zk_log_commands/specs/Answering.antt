-- Writing the output for a script.
use Rattle.std.specs.Prelude.{ℕ, zero, suc, List, ◌⊎◌, Option, Result, Ok, Err, IsOk, codes}
use Rattle.zk_records.specs.declared.sink.Sink.{Sink}
use Rattle.zk_path.specs.declared.memory.NoMemory.{NoMemory}
use Rattle.zk_listing.specs.Lines.{line_of_script_fault}
use Rattle.zk_listing.specs.declared.script_fault.ScriptFault.{ScriptFault}
use Rattle.zk_listing.specs.declared.script_fault.ScriptFault.TheVariants as script_faults
use Rattle.zk_log_commands.specs.Telling.{Told, Outputs, GivesUp}
use Rattle.zk_log_commands.specs.Writing.{LeavesSink, Wrote, BrokeOff}

-- the whole text, and then a line for the user; or a part of the text if the output failed
abbrev pub OutputsAndTells : {O E : Type 0} → (O → Option (List ℕ)) → (E → Option (List ℕ)) → List ℕ → List ℕ → Sink O → Sink O → Sink E → Sink E → Result ℕ NoMemory → Type 0
OutputsAndTells written told text line output output' faults faults' (Ok zero) = ⊥
OutputsAndTells written told text line output output' faults faults' (Ok (suc zero)) =
    (Wrote written output output' text × Told told faults faults' line) ⊎ (BrokeOff written output output' text × Told told faults faults' (codes "zk: write\n"))
OutputsAndTells written told text line output output' faults faults' (Ok (suc (suc more))) = ⊥
OutputsAndTells written told text line output output' faults faults' (Err refused) = LeavesSink written output output' × LeavesSink told faults faults'

-- the output for a script, and the number of its line that is not a command
abbrev pub OutputsAnswers : {O E : Type 0} → (O → Option (List ℕ)) → (E → Option (List ℕ)) → Result (Unit {0}) ScriptFault → List ℕ → Sink O → Sink O → Sink E → Sink E → Result ℕ NoMemory → Type 0
OutputsAnswers written told (Ok done) answers output output' faults faults' result = Outputs written told answers output output' faults faults' result × IsOk result
OutputsAnswers written told (Err (script_faults.Malformed line)) answers output output' faults faults' result = OutputsAndTells written told answers (line_of_script_fault line) output output' faults faults' result
OutputsAnswers written told (Err script_faults.NoMemory) answers output output' faults faults' result = GivesUp written told output output' faults faults' result
