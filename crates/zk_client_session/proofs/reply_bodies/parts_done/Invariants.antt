-- The results so far, and those of the parts that are left.
use Rattle.std.proofs.Common.{◌≡◌, ◌++◌, drop}
use Rattle.zk_client_session.specs.Replies.{parts_done}
use Rattle.zk_client_session.proofs.reply_bodies.parts_done.Given as goal

abbrev pub invariant-loop-part : goal.invariant-loop-part
invariant-loop-part l = l.results.items ++ parts_done (drop l.part-index l.parts) l.left ≡ parts_done l.parts l.fn.kinds
