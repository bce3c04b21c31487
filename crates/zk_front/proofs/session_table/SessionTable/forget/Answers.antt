use Rattle.std.proofs.Common.{w64}
use Rattle.std.proofs.lemmas.Int.{to_z-of_z}
use Rattle.zk_front.proofs.Keeping.{let_go_is}
use Rattle.zk_front.proofs.session_table.SessionTable.forget.Goals as goal

pub returns : goal.returns
returns c =
    let_go_is c.args.session _ c.args.self.now.timeouts c.remove.new.self c.args.self.now.tracker c.forget.new.self
    (to_z-of_z w64 c.args.session c.ranges.session) c.remove.ensures.updates c.forget.ensures
