-- The frames so far are taken.
use Rattle.std.proofs.Common.{◌≡◌, None}
use Rattle.zk_peer_links.proofs.Taking.{IsSoFar}
use Rattle.zk_peer_links.proofs.incoming.take_packets.Given as goal

abbrev pub invariant-loop-taken : goal.invariant-loop-taken
invariant-loop-taken l = record {
  taken : IsSoFar l.line l.fn.decoder.rest l.fn.arrivals.items l.taken l.decoder.rest l.arrivals.items;
  sound : l.decoder.fault ≡ None;
}
