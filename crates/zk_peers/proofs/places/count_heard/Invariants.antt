-- The servers so far were counted.
use Rattle.std.proofs.Common.{◌≡◌, ◌≤◌, ◌+◌, drop}
use Rattle.zab_epoch.specs.Quorums.{marked}
use Rattle.zk_peers.specs.Peers.{heard_by}
use Rattle.zk_peers.proofs.places.count_heard.Given as goal

abbrev pub invariant-loop-index : goal.invariant-loop-index
invariant-loop-index g l = record {
  heard : l.count + marked (heard_by l.cuts l.server (l.index + 1) (drop l.index l.places)) ≡ marked (heard_by l.cuts l.server 1 l.places);
  bound : l.count ≤ l.index;
}
