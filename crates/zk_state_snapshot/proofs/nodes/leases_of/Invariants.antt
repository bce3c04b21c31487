use Rattle.std.proofs.Common.{◌≡◌, map, take}
use Rattle.zk_state_snapshot.specs.StateSnapshots.{lease_of}
use Rattle.zk_state_snapshot.proofs.nodes.leases_of.Given as goal

abbrev pub invariant-loop-one : goal.invariant-loop-one
invariant-loop-one l = l.leases.items ≡ map lease_of (take l.one-index l.fn.sessions)
