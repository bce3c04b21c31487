-- What the command `mend` writes: a log, and then a report. Of each pair of sinks the first is
-- before the command, and the second after it.
use Rattle.std.specs.Prelude.{ℕ, zero, suc, ◌+◌, ◌≤◌, List, ◌⊎◌, Option, Result, Ok, Err, codes}
use Rattle.zk_log.specs.Devices.{reader_of, reads_of}
use Rattle.zk_records.specs.Written.{log_of}
use Rattle.zk_log.specs.declared.fault.LogFault.TheVariants as log_faults
use Rattle.zk_records.specs.declared.sink.Sink.{Sink}
use Rattle.zk_log.specs.declared.source.Source.{Source}
use Rattle.zk_mend.specs.Mending.{Answers, Tells}
use Rattle.zk_mend.specs.declared.fault.MendFault.{MendFault}
use Rattle.zk_mend.specs.declared.fault.MendFault.TheVariants as faults
use Rattle.zk_mend.specs.declared.mended.Mended.{Mended}
use Rattle.zk_log_commands.specs.Telling.{Told, OutputsNothing, GivesUp}
use Rattle.zk_log_commands.specs.Writing.{LeavesSink, Wrote, BrokeOff}
use Rattle.zk_path.specs.declared.memory.NoMemory.{NoMemory}
use Rattle.zk_commands.specs.FaultLines.{line_of_mend_fault}
use Rattle.zk_commands.specs.Reports.{mend_report}

abbrev pub OutputsBoth : {O R E : Type 0} → (O → Option (List ℕ)) → (R → Option (List ℕ)) → (E → Option (List ℕ)) → List ℕ → List ℕ → Sink O → Sink O → Sink R → Sink R → Sink E → Sink E → Result ℕ NoMemory → Type 0
-- both whole
OutputsBoth written reported told log text output output' report report' faults faults' (Ok zero) = Wrote written output output' log × Wrote reported report report' text × LeavesSink told faults faults'
-- a part of the log if its writer failed; or all of it and a part of the report
OutputsBoth written reported told log text output output' report report' faults faults' (Ok (suc zero)) =
    ((BrokeOff written output output' log × LeavesSink reported report report') ⊎ (Wrote written output output' log × BrokeOff reported report report' text)) × Told told faults faults' (codes "zk: write\n")
OutputsBoth written reported told log text output output' report report' faults faults' (Ok (suc (suc more))) = ⊥
-- nothing, if an allocation for the report failed
OutputsBoth written reported told log text output output' report report' faults faults' (Err refused) = LeavesSink written output output' × LeavesSink reported report report' × LeavesSink told faults faults'

-- by what was read: nothing is written for a log that is rejected
abbrev pub OutputsMended : {O R E : Type 0} → (O → Option (List ℕ)) → (R → Option (List ℕ)) → (E → Option (List ℕ)) → Result Mended MendFault → Sink O → Sink O → Sink R → Sink R → Sink E → Sink E → Result ℕ NoMemory → Type 0
OutputsMended written reported told (Ok mended) output output' report report' faults faults' result = OutputsBoth written reported told (log_of mended.dbid mended.journal) (mend_report mended.told mended.ending) output output' report report' faults faults' result
OutputsMended written reported told (Err (faults.Log log_faults.NoMemory)) output output' report report' faults faults' result = LeavesSink written output output' × GivesUp reported told report report' faults faults' result
OutputsMended written reported told (Err fault) output output' report report' faults faults' result = LeavesSink written output output' × OutputsNothing reported told (line_of_mend_fault fault) report report' faults faults' result

-- a log is read to its end and converted, and the converted log and its report are written
pub record MendsLog {F O R E : Type 0} (remaining : F → Option (List ℕ)) (written : O → Option (List ℕ)) (reported : R → Option (List ℕ)) (told : E → Option (List ℕ)) (file file' : Source F) (output output' : Sink O) (report report' : Sink R) (faults faults' : Sink E)
    (result : Result ℕ NoMemory) : Type 0 where
  pub answer : Result Mended MendFault
  pub answers : Answers (remaining (reader_of file)) answer
  pub tells : Tells file 1048576 answer file'
  pub reads : reads_of file' ≤ reads_of file + 1048576
  pub outputs : OutputsMended written reported told answer output output' report report' faults faults' result
