use Rattle.std.proofs.Common.{◌≡◌, length, take, ◌-◌}
use Rattle.zk_jute.specs.Reading.{many_at, acl_at}
use Rattle.zk_jute.proofs.Turns.{with_front}
use Rattle.zk_jute.proofs.acls.stand_next.Given as goal

abbrev pub invariant-loop-entry : goal.invariant-loop-entry
invariant-loop-entry l = with_front (take l.entry-index l.entries) (many_at acl_at (length l.entries - l.entry-index) l.input.now) ≡ many_at acl_at (length l.entries) l.fn.input.now
