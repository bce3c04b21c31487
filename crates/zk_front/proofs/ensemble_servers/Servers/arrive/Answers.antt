use Rattle.std.proofs.Common.{◌+◌, refl, sym, ◌∙◌}
use Rattle.zk_front.proofs.Running.{ran_whole}
use Rattle.zk_front.specs.Arriving.{arrival}
use Rattle.zk_front.proofs.ensemble_servers.Servers.arrive.Goals as goal

pub returns-then-is_lack-clause-err : goal.returns-then-is_lack-clause-err
returns-then-is_lack-clause-err c = record {
  answer = c.happen-answer.result;
  lack = sym c.is_lack.ensures ∙ c.if-is_lack.true;
  happens = c.happen-answer.ensures;
  arrived = refl;
}

pub returns-clause-ok : goal.returns-clause-ok
returns-clause-ok c = record {
  ran = ran_whole c.args.self.now.ensemble c.happen-answer.new.ensemble (arrival (c.args.self.now.arrived + 1)) c.happen-answer.result c.happen-answer.ensures (sym c.is_lack.ensures ∙ c.if-is_lack.false);
  arrived = refl;
}
