use Rattle.std.proofs.Common.{◌<◌, ℕ}
use Rattle.zk_servers.specs.Calls.{StandsAt}
use Rattle.zk_servers.proofs.calls.calls_stand.Given as goal

abbrev pub invariant-loop-at : goal.invariant-loop-at
invariant-loop-at l = (at : ℕ) → at < l.at → StandsAt l.records l.calls at
