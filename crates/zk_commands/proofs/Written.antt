-- A log that was written, and the report on it.
use Rattle.std.proofs.Common.{ℕ, zero, suc, List, inl, inr, Option, Ok}
use Rattle.zk_records.specs.declared.sink.Sink.{Sink}
use Rattle.zk_log_commands.specs.Telling.{Outputs}
use Rattle.zk_log_commands.specs.Writing.{Wrote}
use Rattle.zk_commands.specs.Mends.{OutputsBoth}

-- by the status of writing the report
pub both_written : {O R E : Type 0} (written : O → Option (List ℕ)) (reported : R → Option (List ℕ)) (told : E → Option (List ℕ)) (log text : List ℕ) (output output' : Sink O) (report report' : Sink R) (faults faults' : Sink E) (status : ℕ)
    → Wrote written output output' log → Outputs reported told text report report' faults faults' (Ok status) → OutputsBoth written reported told log text output output' report report' faults faults' (Ok status)
both_written written reported told log text output output' report report' faults faults' zero w o = (w, o.0, o.1)
both_written written reported told log text output output' report report' faults faults' (suc zero) w o = (inr (w, o.0), o.1)
both_written written reported told log text output output' report report' faults faults' (suc (suc more)) w o = o
