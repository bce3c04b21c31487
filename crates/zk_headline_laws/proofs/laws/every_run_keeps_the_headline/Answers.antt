use Rattle.std.proofs.Common.{refl}
use Rattle.zk_model.specs.Entries.{entry_zxid}
use Rattle.zk_model.specs.Ensembles.{profile_by}
use Rattle.zk_headline_laws.proofs.Headlines.{headline}
use Rattle.zk_headline_laws.proofs.laws.every_run_keeps_the_headline.Goals as goal

pub returns : goal.returns
returns g c = λ servers some.
    headline (profile_by (g.Q.Quorums.passes c.args._quorums.now)) entry_zxid (g.met.Q.Quorums.share c.args._quorums.now) (λ history call zxid. refl) servers some
