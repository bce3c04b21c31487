use Rattle.std.proofs.Common.{w64, to_z, of_z}
use Rattle.std.proofs.lemmas.Int.{to_z-of_z}
use Rattle.zk_verification.proofs.Follow.{follows_to}
use Rattle.zk_verification.proofs.following.follow.Goals as goal

pub returns : goal.returns
returns c =
    follows_to c.restore_to.result c.args.snapshot.now c.args.zxid (to_z w64 (of_z w64 c.args.zxid)) c.args.breaks.now c.args.next c.in-Ok.exact c.reach_of.result c.upto_of-upto.result c.args.logged.now c.args.logs.now
    (to_z-of_z w64 c.args.zxid c.ranges.zxid) c.in-Ok.ensures c.reach_of.ensures c.upto_of-upto.ensures c.restore_to.ensures
