-- The inputs so far are heard.
use Rattle.std.proofs.Common.{◌≡◌, [], take}
use Rattle.zk_peer_links.specs.Links.{HearsAll, hearing}
use Rattle.zk_peer_links.proofs.links.Links.hear.Given as goal

abbrev pub invariant-loop-index : goal.invariant-loop-index
invariant-loop-index l = record {
  heard : HearsAll l.fn.self.me (take l.index l.inputs) (hearing l.fn.self.links.items [] []) (hearing l.self.links.items l.heard.arrivals.items l.heard.ended.items);
  me : l.self.me ≡ l.fn.self.me;
}
