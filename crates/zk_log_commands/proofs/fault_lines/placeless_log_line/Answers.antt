use Rattle.std.proofs.Common.{ap}
use Rattle.std.specs.Prelude.{codes}
use Rattle.zk_log_commands.specs.FaultLines.{line_of_log_fault}
use Rattle.zk_log_commands.proofs.fault_lines.placeless_log_line.Goals as goal

pub returns-in-Checksum-clause-place : goal.returns-in-Checksum-clause-place
returns-in-Checksum-clause-place c = (codes "zk: G2", c.in-Checksum.field-0, ap line_of_log_fault c.in-Checksum.is)

pub returns-in-Record-clause-place : goal.returns-in-Record-clause-place
returns-in-Record-clause-place c = (codes "zk: G3", c.in-Record.field-0, ap line_of_log_fault c.in-Record.is)

pub returns-in-Order-clause-place : goal.returns-in-Order-clause-place
returns-in-Order-clause-place c = (codes "zk: G4", c.in-Order.field-0, ap line_of_log_fault c.in-Order.is)

pub returns-in-TooLong-clause-place : goal.returns-in-TooLong-clause-place
returns-in-TooLong-clause-place c = (codes "zk: G5", c.in-TooLong.field-0, ap line_of_log_fault c.in-TooLong.is)
