use Rattle.std.proofs.Common.{◌≡◌, ◌-◌}
use Rattle.zk_jute.specs.Reading.{many_at}
use Rattle.zab_frames.specs.Reading.{acl_at}
use Rattle.zk_jute.proofs.Turns.{with_front}
use Rattle.zab_frames.proofs.fields.some_acls.Given as goal

abbrev pub invariant-loop : goal.invariant-loop
invariant-loop l = with_front l.entries.items (many_at acl_at (l.count - l.counter) l.input.now) ≡ many_at acl_at l.fn.count l.fn.input.now
