use Rattle.std.proofs.Common.{◌∙◌, sym}
use Rattle.zk_connections.proofs.Taking.{taken_connected, taken_new}
use Rattle.zk_connections.proofs.connection.Connection.take.Goals as goal

pub returns-in-New-clause-taken : goal.returns-in-New-clause-taken
returns-in-New-clause-taken c = taken_new c.args.self.now c.take_first.new.self c.take_first.result (sym c.rests.ensures ∙ c.if-rests.false) c.in-New.is c.take_first.ensures.taken

pub returns-in-Connected-clause-taken : goal.returns-in-Connected-clause-taken
returns-in-Connected-clause-taken c = taken_connected c.args.self.now c.take_request.new.self c.in-Connected.field-0 c.take_request.result (sym c.rests.ensures ∙ c.if-rests.false) c.in-Connected.is c.take_request.ensures.taken
