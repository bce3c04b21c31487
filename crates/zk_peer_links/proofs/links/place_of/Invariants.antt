-- No link so far has the number.
use Rattle.std.proofs.Common.{◌≡◌, ◌<◌, ℕ, false}
use Rattle.zk_peer_links.specs.Links.{has_number, link_at}
use Rattle.zk_peer_links.proofs.links.place_of.Given as goal

abbrev pub invariant-loop-place : goal.invariant-loop-place
invariant-loop-place l = (k : ℕ) → k < l.place → has_number l.number (link_at l.links k) ≡ false
