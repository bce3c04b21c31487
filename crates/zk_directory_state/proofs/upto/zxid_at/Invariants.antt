-- The logs so far, followed by the others, are all.
use Rattle.std.proofs.Common.{ℤ, pos, drop}
use Rattle.zk_directory_state.specs.Histories.{IsLatestAt}
use Rattle.zk_directory_state.proofs.upto.zxid_at.Given as goal

abbrev pub invariant-loop-log : goal.invariant-loop-log
invariant-loop-log g l = (latest : ℤ) → IsLatestAt (g.L.Folder.bytes_in l.logs) l.time l.latest (drop l.log-index l.logged) latest → IsLatestAt (g.L.Folder.bytes_in l.logs) l.time (pos 0) l.logged latest
