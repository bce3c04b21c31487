use Rattle.std.proofs.Common.{◌≡◌, ◌-◌}
use Rattle.std.specs.Int.{w64}
use Rattle.zk_jute.specs.Reading.{many_at}
use Rattle.zab_frames.specs.Reading.{natural_at}
use Rattle.zk_jute.proofs.Turns.{with_front}
use Rattle.zab_frames.proofs.entries.some_tags.Given as goal

abbrev pub invariant-loop : goal.invariant-loop
invariant-loop l = with_front l.tags.items (many_at (natural_at w64) (l.count - l.counter) l.input.now) ≡ many_at (natural_at w64) l.fn.count l.fn.input.now
