use Rattle.std.proofs.Common.{◌≡◌, ◌-◌}
use Rattle.zk_jute.specs.Reading.{many_at, text_at}
use Rattle.zk_jute.proofs.Turns.{with_front}
use Rattle.zk_frames.proofs.field_readers.some_texts.Given as goal

abbrev pub invariant-loop : goal.invariant-loop
invariant-loop l = with_front l.texts.items (many_at text_at (l.count - l.counter) l.input.now) ≡ many_at text_at l.fn.count l.fn.input.now
