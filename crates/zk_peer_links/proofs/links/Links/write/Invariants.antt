-- The links so far are written to.
use Rattle.std.proofs.Common.{◌≡◌}
use Rattle.zk_peer_links.proofs.Writing.{IsWrittenUpTo}
use Rattle.zk_peer_links.proofs.links.Links.write.Given as goal

abbrev pub invariant-loop-place : goal.invariant-loop-place
invariant-loop-place l = record {
  written : IsWrittenUpTo l.notice l.sessions l.messages l.fn.self.links.items l.place l.self.links.items l.outputs.items;
  me : l.self.me ≡ l.fn.self.me;
}
