use Rattle.std.proofs.Common.{ap}
use Rattle.std.specs.Int.Bits.{bit_xor}
use Rattle.std.proofs.lemmas.Nat.{and_mask}
use Rattle.zk_crc.proofs.Crcs.{byte_looked_up}
use Rattle.zk_crc.proofs.crc.after_byte.Goals as goal

pub returns : goal.returns
returns c = byte_looked_up c.args.register c.args.byte _ c.moved_8.result c.ranges.byte.fits (ap (λ l. bit_xor l c.args.byte) (and_mask c.args.register 8)) c.moved_8.ensures
