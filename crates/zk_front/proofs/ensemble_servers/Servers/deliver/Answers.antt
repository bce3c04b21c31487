use Rattle.std.proofs.Common.{◌-◌, arith}
use Rattle.zk_front.proofs.Running.{all_arrived, arrives_more, arrives_none, some_left}
use Rattle.zk_front.proofs.ensemble_servers.Servers.deliver.Goals as goal

pub messages-init : goal.messages-init
messages-init c = arrives_none c.args.self.now

pub messages-preserved : goal.messages-preserved
messages-preserved c =
    arrives_more c.args.self.now c.messages.self c.arrive.new.self c.messages.left (c.messages.left - 1) c.messages.invariant (omega arith) c.in_ok-arrive.ensures.ok

pub returns-clause-ok : goal.returns-clause-ok
returns-clause-ok c = all_arrived c.args.self.now c.messages.self c.messages.left c.messages.invariant (c.has_more.ensures.no c.messages-test.false)

pub returns-then-left-eq0-clause-err : goal.returns-then-left-eq0-clause-err
returns-then-left-eq0-clause-err c = some_left c.args.self.now c.messages.self c.messages.left c.messages.invariant c.if-left-eq0.true (c.has_more.ensures.yes c.messages-test.true)
