use Rattle.std.proofs.Common.{subst}
use Rattle.zk_ensemble.specs.Views.{EnsembleView}
use Rattle.zk_front.specs.Happening.{Ran}
use Rattle.zk_front.specs.ServiceStarting.{beginning}
use Rattle.zk_front.proofs.start.start.Goals as goal

pub returns-clause-ok : goal.returns-clause-ok
returns-clause-ok c = record {
  mid = c.begin.new.ensemble;
  ran = subst (λ (it : EnsembleView). Ran it (beginning c.args.count) c.begin.new.ensemble) c.in_ok-new.ensures c.in_ok-begin.ensures.ok;
  delivered = c.in_ok-deliver.ensures.ok;
}
