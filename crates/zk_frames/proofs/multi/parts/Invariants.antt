use Rattle.std.proofs.Common.{◌≡◌, ◌-◌}
use Rattle.zk_frames.specs.Reading.{parts_at}
use Rattle.zk_jute.proofs.Turns.{with_front}
use Rattle.zk_frames.proofs.multi.parts.Given as goal

abbrev pub invariant-loop : goal.invariant-loop
invariant-loop l = with_front l.parts.items (parts_at (l.count - l.counter) l.input.now) ≡ parts_at l.fn.count l.fn.input.now
