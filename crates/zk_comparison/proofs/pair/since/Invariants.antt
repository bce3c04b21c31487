-- The entries before the rest are below the zxid.
use Rattle.std.proofs.Common.{◌≡◌, length, map}
use Rattle.zk_comparison.specs.Pairs.{since}
use Rattle.zk_directory.specs.Chains.{told}
use Rattle.zk_comparison.proofs.pair.since.Given as goal

abbrev pub invariant-loop-rest : goal.invariant-loop-rest
invariant-loop-rest l = since l.zxid (map told l.rest) ≡ since l.zxid (map told l.fn.entries)

abbrev pub decreases-loop-rest : goal.decreases-loop-rest
decreases-loop-rest l = length l.rest
