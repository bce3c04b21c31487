use Rattle.std.proofs.Common.{arith, ◌∙◌}
use Rattle.zk_snapshot.proofs.Whole.{snapshot_found, refused, same_snapshot}
use Rattle.zk_snapshot.proofs.reading.read_snapshot.Goals as goal

pub returns-in-Ok-clause-found : goal.returns-in-Ok-clause-found
returns-in-Ok-clause-found c = snapshot_found c.args.bytes.now c.in-Ok.snapshot (λ i. omega (arith, c.type_inv.bytes i)) c.in-Ok.ensures

pub returns-in-Ok-clause-only : goal.returns-in-Ok-clause-only
returns-in-Ok-clause-only c = λ snapshot is. same_snapshot c.args.bytes.now c.in-Ok.snapshot snapshot c.in-Ok.ensures is

pub returns-in-Err-clause-only : goal.returns-in-Err-clause-only
returns-in-Err-clause-only c = λ snapshot is. c.fault_of.ensures ∙ refused c.args.bytes.now c.in-Err.field snapshot c.in-Err.ensures is
