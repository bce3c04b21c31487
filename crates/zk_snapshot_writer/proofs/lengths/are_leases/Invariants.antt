use Rattle.std.proofs.Common.{take}
use Rattle.std.specs.List.{AllByRecursion}
use Rattle.zk_snapshot.specs.Snapshots.{IsLease}
use Rattle.zk_snapshot_writer.proofs.lengths.are_leases.Given as goal

abbrev pub invariant-loop-lease : goal.invariant-loop-lease
invariant-loop-lease l = AllByRecursion IsLease (take l.lease-index l.leases)
