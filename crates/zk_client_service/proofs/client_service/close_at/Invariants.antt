-- The connections so far have no watches.
use Rattle.std.proofs.Common.{◌≡◌, drop}
use Rattle.zk_client_service.specs.Services.{tree_after}
use Rattle.zk_client_service.proofs.client_service.close_at.Given as goal

abbrev pub invariant-loop-number : goal.invariant-loop-number
invariant-loop-number g l = record {
  tree : tree_after (drop l.number-index l.fn.numbers) l.host.tree ≡ tree_after l.fn.numbers l.fn.host.tree;
  rest : (l.host.host ≡ l.fn.host.host) × ((l.host.shown ≡ l.fn.host.shown) × (l.host.tags ≡ l.fn.host.tags));
}
