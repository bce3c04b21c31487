use Rattle.std.proofs.Common.{◌-◌, ◌≡◌, ◌≤◌, length}
use Rattle.zk_cli.proofs.disk_folder.read_part.Given as goal

abbrev pub invariant-loop-held : goal.invariant-loop-held
invariant-loop-held l = (length l.bytes.items ≡ l.count) × (l.held ≤ l.count)

abbrev pub decreases-loop-held : goal.decreases-loop-held
decreases-loop-held l = l.count - l.held
