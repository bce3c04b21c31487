-- What the command `run` writes: the output for a script of events.
use Rattle.std.specs.Prelude.{ℕ, ◌+◌, ◌≤◌, List, [], Option, Result, Ok, Err, codes}
use Rattle.std.specs.Str.{IsUtf8}
use Rattle.zk_log.specs.Devices.{reader_of, reads_of}
use Rattle.zk_records.specs.declared.sink.Sink.{Sink}
use Rattle.zk_log.specs.declared.source.Source.{Source}
use Rattle.zk_path.specs.declared.memory.NoMemory.{NoMemory}
use Rattle.zk_run_script.specs.Scripts.{RunsScript}
use Rattle.zk_listing.specs.declared.script_fault.ScriptFault.{ScriptFault}
use Rattle.zk_log_commands.specs.Answering.{OutputsAnswers}
use Rattle.zk_log_commands.specs.Reading.{ReadsAll, TellsRead}
use Rattle.zk_log_commands.specs.Telling.{OutputsNothing, GivesUp}
use Rattle.zk_log_commands.specs.declared.text.TextFault.{TextFault}
use Rattle.zk_log_commands.specs.declared.text.TextFault.TheVariants as text_faults

-- a script is executed, and its output written
pub record RunsWhole {O E : Type 0} (written : O → Option (List ℕ)) (told : E → Option (List ℕ)) (script : List ℕ) (output output' : Sink O) (faults faults' : Sink E) (result : Result ℕ NoMemory) : Type 0 where
  pub ran : Result (Unit {0}) ScriptFault
  pub answers : List ℕ
  pub runs : RunsScript script [] ran answers
  pub outputs : OutputsAnswers written told ran answers output output' faults faults' result

-- by what was read
abbrev pub OutputsRun : {O E : Type 0} → (O → Option (List ℕ)) → (E → Option (List ℕ)) → Result (List ℕ) TextFault → Sink O → Sink O → Sink E → Sink E → Result ℕ NoMemory → Type 0
OutputsRun written told (Ok script) output output' faults faults' result = IsUtf8 script × RunsWhole written told script output output' faults faults' result
OutputsRun written told (Err text_faults.Read) output output' faults faults' result = OutputsNothing written told (codes "zk: read\n") output output' faults faults' result
OutputsRun written told (Err text_faults.Utf8) output output' faults faults' result = OutputsNothing written told (codes "zk: utf8\n") output output' faults faults' result
OutputsRun written told (Err text_faults.NoMemory) output output' faults faults' result = GivesUp written told output output' faults faults' result

-- a script is read whole, and then executed
pub record RunsText {F O E : Type 0} (remaining : F → Option (List ℕ)) (written : O → Option (List ℕ)) (told : E → Option (List ℕ)) (file file' : Source F) (output output' : Sink O) (faults faults' : Sink E) (result : Result ℕ NoMemory) : Type 0 where
  pub text : Result (List ℕ) TextFault
  pub reads : ReadsAll (λ bytes. bytes) (remaining (reader_of file)) text
  pub tells : TellsRead file 1048576 text file'
  pub sparing : reads_of file' ≤ reads_of file + 1048576
  pub outputs : OutputsRun written told text output output' faults faults' result
