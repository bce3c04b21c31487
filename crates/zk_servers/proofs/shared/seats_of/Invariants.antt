use Rattle.std.proofs.Common.{◌≡◌, ◌+◌, [], replicate, ◌≤◌}
use Rattle.zk_servers.proofs.shared.seats_of.Given as goal

abbrev pub invariant-loop : goal.invariant-loop
invariant-loop g l = (l.rest.parts + l.counter ≡ l.count + 1) × (l.rest.amount ≡ 0) × (l.seats.items ≡ replicate l.counter []) × (l.count ≤ l.seats.cap)
