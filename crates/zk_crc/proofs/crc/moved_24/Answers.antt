use Rattle.std.proofs.Common.{refl}
use Rattle.zk_crc.specs.declared.far.TheConstants.{AFTER_24}
use Rattle.zk_crc.specs.Crc.{moved}
use Rattle.zk_crc.proofs.Crcs.{table_entry}
use Rattle.zk_crc.proofs.crc.moved_24.Goals as goal

pub returns : goal.returns
unfolding moved
returns c = table_entry 24 AFTER_24 c.from.result c.args.low refl c.from.ensures c.ranges.low.fits
