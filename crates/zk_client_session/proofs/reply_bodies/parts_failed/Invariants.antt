use Rattle.std.proofs.Common.{◌≡◌, map, take}
use Rattle.zk_client_session.specs.Replies.{part_failed}
use Rattle.zk_client_session.proofs.reply_bodies.parts_failed.Given as goal

abbrev pub invariant-loop-part : goal.invariant-loop-part
invariant-loop-part l = l.results.items ≡ map part_failed (take l.part-index l.parts)
