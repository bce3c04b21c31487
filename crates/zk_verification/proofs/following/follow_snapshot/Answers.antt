use Rattle.std.proofs.Common.{w64, to_z, of_z}
use Rattle.std.proofs.lemmas.Int.{to_z-of_z}
use Rattle.zk_verification.proofs.Follow.{follows_bytes}
use Rattle.zk_verification.proofs.following.follow_snapshot.Goals as goal

pub returns-in-Ok : goal.returns-in-Ok
returns-in-Ok c =
    follows_bytes c.follow.result c.args.bytes.now c.in-Ok.snapshot c.args.zxid (to_z w64 (of_z w64 c.args.zxid)) c.args.breaks.now c.args.next c.args.logged.now c.from_place.result.now c.args.logs.now c.from_place-in-Ok.result.now c.first_log-first.result
    (to_z-of_z w64 c.args.zxid c.ranges.zxid) c.in-Ok.ensures.exact c.first_log-first.ensures c.from_place.ensures c.from_place-in-Ok.ensures c.follow.ensures
