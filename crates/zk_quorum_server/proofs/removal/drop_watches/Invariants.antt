-- The connections so far have no watches.
use Rattle.std.proofs.Common.{◌≡◌, drop}
use Rattle.zk_quorum_server.specs.Removals.{without_watches}
use Rattle.zk_quorum_server.proofs.removal.drop_watches.Given as goal

abbrev pub invariant-loop-number : goal.invariant-loop-number
invariant-loop-number g l = record {
  tree : without_watches (drop l.number-index l.fn.numbers) l.host.tree ≡ without_watches l.fn.numbers l.fn.host.tree;
  rest : (l.host.host ≡ l.fn.host.host) × ((l.host.shown ≡ l.fn.host.shown) × (l.host.tags ≡ l.fn.host.tags));
}
