use Rattle.zk_front.proofs.Ending.{ends_all, ends_early, ends_empty}
use Rattle.zk_front.proofs.serving.end_last_line.Goals as goal

pub returns-then-is_empty-clause-ok : goal.returns-then-is_empty-clause-ok
returns-then-is_empty-clause-ok g c = ends_empty g.S.Service.does c.args.connection.now c.args.service.now (c.is_empty.ensures.yes c.if-is_empty.true)

pub returns-clause-ok : goal.returns-clause-ok
returns-clause-ok g c =
    ends_all g.S.Service.does c.args.connection.now c.end_line.new.connection c.args.service.now c.end_line.new.service c.end_line.result (c.is_empty.ensures.no c.if-is_empty.false) c.end_line.ensures.ok

pub returns-clause-err : goal.returns-clause-err
returns-clause-err g c =
    ends_early g.S.Service.does c.args.connection.now c.args.service.now c.end_line.new.service c.end_line.result (c.is_empty.ensures.no c.if-is_empty.false) c.end_line.ensures.err
