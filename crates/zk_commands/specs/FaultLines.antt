-- The line on standard error for a log that was not converted: a fault's number, then its position
-- in decimal.
use Rattle.std.specs.Prelude.{ℕ, List, ◌++◌, codes}
use Rattle.std.specs.Fmt.{decimal}
use Rattle.zk_mend.specs.declared.fault.MendFault.{MendFault}
use Rattle.zk_mend.specs.declared.fault.MendFault.TheVariants as faults
use Rattle.zk_log_commands.specs.FaultLines.{line_of_log_fault}

abbrev pub place_line : List ℕ → ℕ → List ℕ
place_line number at = codes "zk: " ++ number ++ codes " " ++ decimal at ++ codes "\n"

-- a loader's fault has the same line
abbrev pub line_of_mend_fault : MendFault → List ℕ
line_of_mend_fault (faults.Log fault) = line_of_log_fault fault
line_of_mend_fault (faults.Record at) = place_line (codes "G3") at
line_of_mend_fault (faults.NoReason at) = place_line (codes "N1") at
line_of_mend_fault (faults.OtherNodes at) = place_line (codes "N2") at
line_of_mend_fault (faults.TooLong at) = place_line (codes "N3") at
