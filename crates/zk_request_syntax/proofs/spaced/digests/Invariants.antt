-- The identities so far stand in front of those that are still read.
use Rattle.std.proofs.Common.{◌≡◌, ◌-◌}
use Rattle.zk_listing.specs.Reading.{many_at, behind}
use Rattle.zk_request_syntax.specs.Reading.{digest_at}
use Rattle.zk_request_syntax.proofs.spaced.digests.Given as goal

abbrev pub invariant-loop : goal.invariant-loop
invariant-loop l = behind l.ids.items (many_at digest_at (l.count - l.counter) l.input.now) ≡ many_at digest_at l.fn.count l.fn.input.now
