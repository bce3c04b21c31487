use Rattle.std.proofs.Common.{ap, ◌++◌}
use Rattle.std.specs.Prelude.{codes}
use Rattle.zk_log_commands.specs.FaultLines.{line_of_asm_fault, number_of_cause}
use Rattle.zk_log_commands.proofs.fault_lines.placeless_asm_line.Goals as goal

pub returns-in-Listing-clause-place : goal.returns-in-Listing-clause-place
returns-in-Listing-clause-place c =
    let fault = c.in-Listing.field-0 in (codes "zk: " ++ number_of_cause fault.cause, fault.line, ap line_of_asm_fault c.in-Listing.is)

pub returns-in-Order-clause-place : goal.returns-in-Order-clause-place
returns-in-Order-clause-place c = (codes "zk: order", c.in-Order.field-0, ap line_of_asm_fault c.in-Order.is)

pub returns-in-Length-clause-place : goal.returns-in-Length-clause-place
returns-in-Length-clause-place c = (codes "zk: length", c.in-Length.field-0, ap line_of_asm_fault c.in-Length.is)
