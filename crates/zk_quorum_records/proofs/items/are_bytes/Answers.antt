use Rattle.std.proofs.Common.{arith}
use Rattle.zk_quorum_records.proofs.items.are_bytes.Goals as goal

pub returns : goal.returns
returns c = λ i. omega (arith, c.type_inv.bytes i)
