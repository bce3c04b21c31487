use Rattle.std.proofs.Common.{◌≡◌, ◌≤◌, length, vec_len}
use Rattle.std.specs.Vec.Iter.{into_iter_items}
use Rattle.zk_servers.proofs.Starting.{Started}
use Rattle.zk_servers.proofs.running.start_all.Given as goal

abbrev pub invariant-loop-worker : goal.invariant-loop-worker
invariant-loop-worker g l = Started l.fn.workers.items l.turns (into_iter_items l.worker-iterator) l.children.items × (vec_len l.fn.workers ≤ l.children.cap)
