use Rattle.zk_model.specs.Ensembles.{profile_by}
use Rattle.zk_host_laws.proofs.Orders.{trees_agree, never_back}
use Rattle.zk_host_laws.proofs.laws.reads_never_go_back.Goals as goal

pub returns-clause-order : goal.returns-clause-order
returns-clause-order g c = trees_agree (profile_by (g.Q.Quorums.passes c.args._quorums.now)) c.hosts_agree.ensures

pub returns-clause-back : goal.returns-clause-back
returns-clause-back g c =
    never_back (profile_by (g.Q.Quorums.passes c.args._quorums.now)) c.runs_agree.ensures c.hosts_are_a_run.ensures c.hosts_agree.ensures
    c.hosts_never_go_back.ensures.grows
