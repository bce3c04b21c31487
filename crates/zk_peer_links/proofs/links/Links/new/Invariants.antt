-- No link so far.
use Rattle.std.proofs.Common.{◌≡◌, None, replicate}
use Rattle.zk_peer_links.proofs.links.Links.new.Given as goal

abbrev pub invariant-loop-place : goal.invariant-loop-place
invariant-loop-place l = l.links.items ≡ replicate l.place None
