use Rattle.std.proofs.Common.{arith}
use Rattle.zk_format.proofs.HexBytes.{all-IsBytes}
use Rattle.zk_run_script.proofs.laws.bytes_are_read.Goals as goal

pub returns : goal.returns
returns c = all-IsBytes c.args.bytes.now (λ i. omega (arith, c.type_inv.bytes i))
