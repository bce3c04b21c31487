use Rattle.std.proofs.lemmas.Int.{to_z-of_z}
use Rattle.std.proofs.Common.{w64}
use Rattle.std.specs.FinMap as finite
use Rattle.zk_stored_owners.proofs.Following.{log_followed}
use Rattle.zk_stored_owners.proofs.follower.Follower.take_log.Goals as goal

pub returns : goal.returns
returns c =
    log_followed c.take_all.result c.args.upto _ c.args.self.now.last c.take_all.new.self.last (finite.get c.args.self.now.owners) (finite.get c.take_all.new.self.owners) c.args.bytes.now _ c.in_ok-file.file c.in_ok-file.ensures c.as_slice.ensures.value
    (to_z-of_z w64 c.args.upto c.ranges.upto) c.take_all.ensures
