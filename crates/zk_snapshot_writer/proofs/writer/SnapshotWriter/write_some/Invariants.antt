use Rattle.std.proofs.Common.{◌≡◌, ◌-◌, ◌≤◌, ◌++◌, drop, take}
use Rattle.zk_snapshot_writer.proofs.writer.SnapshotWriter.write_some.Given as goal

abbrev pub invariant-loop-room : goal.invariant-loop-room
invariant-loop-room l = (l.room ≤ l.most) × (l.out.items ≡ l.fn.out.items ++ take (l.most - l.room) l.fn.self) × (l.self ≡ drop (l.most - l.room) l.fn.self)

abbrev pub decreases-loop-room : goal.decreases-loop-room
decreases-loop-room l = l.room
