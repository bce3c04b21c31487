use Rattle.std.proofs.Common.{◌∙◌}
use Rattle.zk_debug.proofs.walk.take_step.Goals as goal

pub returns : goal.returns
returns c =
    let e = c.in-Ok.ensures in
    let s = c.shrink.ensures in
    record {
      applied = c.shrink.new.self;
      kept = c.in_ok-push.ensures.items;
      stepped = rw s.result e.stepped;
      changes = s.changes ∙ e.changes;
      last_step = rw s.undo e.last_step;
      undone = rw s.undo e.undone;
      stands = e.stands;
      counted = e.counted;
      ran = e.ran.1;
    }
