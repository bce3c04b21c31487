use Rattle.std.proofs.Common.{◌≡◌, IfOk, Option, subst}
use Rattle.zk_client_session.specs.Parts.{split}
use Rattle.zk_client_session.specs.declared.ask.Action.{Action}
use Rattle.zk_connections.proofs.Taking.{left_alone}
use Rattle.zk_connections.specs.Inputs.{taken_frame}
use Rattle.zk_connections.specs.declared.connection.Connection.{Connection}
use Rattle.zk_connections.specs.declared.input.Taken.{Taken}
use Rattle.zk_connections.proofs.connection.Connection.take_frame.Goals as goal

pub returns-in-Some-clause-taken : goal.returns-in-Some-clause-taken
returns-in-Some-clause-taken c =
    subst (λ (left : Option Action). IfOk c.work_on.result (λ taken. taken_frame left c.args.count c.args.self.now ≡ (c.work_on.new.self, taken))) c.in-Some.ensures.value
    (subst (λ (all : Connection × Option Taken). IfOk c.work_on.result (λ taken. all ≡ (c.work_on.new.self, taken))) (left_alone (split c.args.self.now.work c.in-Some.action) c.args.count c.replace.new.dest c.args.self.now) c.work_on.ensures.taken)
