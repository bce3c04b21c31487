use Rattle.zk_headline_laws.proofs.Consequences.{consequences}
use Rattle.zk_headline_laws.proofs.laws.every_run_keeps_the_consequences.Goals as goal

pub returns : goal.returns
returns g c = λ servers some. consequences (g.Q.Quorums.passes c.args._quorums.now) (g.met.Q.Quorums.share c.args._quorums.now) servers some
