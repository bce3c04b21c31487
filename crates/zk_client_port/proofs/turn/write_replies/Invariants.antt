-- The replies so far are written, and those to come.
use Rattle.std.proofs.Common.{◌≡◌}
use Rattle.std.specs.Vec.Iter.{into_iter_items}
use Rattle.zk_client_port.specs.Flushing.{with_replies}
use Rattle.zk_client_port.proofs.turn.write_replies.Given as goal

abbrev pub invariant-loop-reply : goal.invariant-loop-reply
invariant-loop-reply l = with_replies l.admission l.fn.last (into_iter_items l.reply-iterator) l.connection ≡ with_replies l.fn.admission l.fn.last l.fn.replies.items l.fn.connection
