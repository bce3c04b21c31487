use Rattle.std.proofs.Common.{◌≡◌, ◌-◌}
use Rattle.zk_jute.specs.Reading.{many_at}
use Rattle.zk_quorum_records.specs.Reading.{identity_at}
use Rattle.zk_jute.proofs.Turns.{with_front}
use Rattle.zk_quorum_records.proofs.packets.some_identities.Given as goal

abbrev pub invariant-loop : goal.invariant-loop
invariant-loop l = with_front l.ids.items (many_at identity_at (l.count - l.counter) l.input.now) ≡ many_at identity_at l.fn.count l.fn.input.now
