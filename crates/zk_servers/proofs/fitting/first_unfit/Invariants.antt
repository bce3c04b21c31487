use Rattle.std.proofs.Common.{◌≡◌, length}
use Rattle.zk_servers.specs.Closing.{AllFit}
use Rattle.zk_servers.proofs.Marks.{Marked}
use Rattle.zk_servers.proofs.fitting.first_unfit.Given as goal

abbrev pub invariant-loop-at : goal.invariant-loop-at
invariant-loop-at l = AllFit l.records l.receipts l.at × Marked l.met.items l.receipts l.at × (length l.met.items ≡ length l.records)
