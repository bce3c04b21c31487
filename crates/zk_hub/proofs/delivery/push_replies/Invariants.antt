-- The replies so far are appended.
use Rattle.std.proofs.Common.{◌≡◌, ◌++◌, map}
use Rattle.std.specs.Vec.Iter.{into_iter_items}
use Rattle.zk_hub.specs.Deliveries.{reply_output}
use Rattle.zk_hub.proofs.delivery.push_replies.Given as goal

abbrev pub invariant-loop-reply : goal.invariant-loop-reply
invariant-loop-reply g l = l.outputs.items ++ map (reply_output l.connection) (into_iter_items l.reply-iterator) ≡ l.fn.outputs.items ++ map (reply_output l.fn.connection) l.fn.replies.items
