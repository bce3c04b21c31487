-- The report, written.
use Rattle.std.proofs.Common.{◌≡◌, ℕ, nat_lt, List, Option, Ok, Err, refl, ap, ◌∙◌, if◌then◌else◌}
use Rattle.std.proofs.KnownBytes.{Keeps-refl}
use Rattle.zk_log_commands.specs.Telling.{Outputs}
use Rattle.zk_path.specs.declared.memory.NoMemory.{NoMemory}
use Rattle.zk_records.specs.Sinks.{writer_of}
use Rattle.zk_records.specs.declared.sink.Sink.{Sink}
use Rattle.zk_verification.specs.Marks.{wrong_in}
use Rattle.zk_verification.specs.Outcomes.{OutputsReport}
use Rattle.zk_verification.specs.Reports.{IsReport}
use Rattle.zk_verification.specs.declared.mark.Mark.{Mark}

abbrev pub status_of : ℕ → ℕ → ℕ
status_of wrong put = if nat_lt 0 wrong then 1 else put

-- the text was written
pub written_whole : {O E : Type 0} (written : O → Option (List ℕ)) (told : E → Option (List ℕ)) (all : List Mark) (text : List ℕ) (put wrong status : ℕ) (output output' : Sink O) (faults faults' : Sink E)
    → IsReport all text → Outputs written told text output output' faults faults' (Ok put) → wrong ≡ wrong_in all → status ≡ status_of wrong put → OutputsReport written told all output output' faults faults' (Ok status)
written_whole written told all text put wrong status output output' faults faults' is puts are e = (text, put, is, puts, e ∙ ap (λ n. status_of n put) are)

pub nothing_written : {O E : Type 0} (written : O → Option (List ℕ)) (told : E → Option (List ℕ)) (all : List Mark) (output : Sink O) (faults : Sink E) (failed : NoMemory)
    → OutputsReport written told all output output faults faults (Err failed)
nothing_written written told all output faults failed = (record { bytes = Keeps-refl (written (writer_of output)); failures = refl }, record { bytes = Keeps-refl (told (writer_of faults)); failures = refl })
