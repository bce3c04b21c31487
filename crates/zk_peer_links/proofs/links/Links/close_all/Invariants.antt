-- The links so far are closed.
use Rattle.std.proofs.Common.{◌≡◌, ◌++◌, None, map, take, drop}
use Rattle.zk_peer_links.proofs.links.Links.close_all.Given as goal

abbrev pub invariant-loop-place : goal.invariant-loop-place
invariant-loop-place l = record {
  links : l.self.links.items ≡ map (λ link. None) (take l.place l.fn.self.links.items) ++ drop l.place l.fn.self.links.items;
  me : l.self.me ≡ l.fn.self.me;
}
