use Rattle.std.proofs.Common.{Result, Option, ℕ, subst, sym}
use Rattle.zab_host.specs.Hosts.{Syncs}
use Rattle.zk_client_port.proofs.Requesting.{requested}
use Rattle.zk_client_port.specs.Execution.{RequestsTo}
use Rattle.zk_client_port.specs.declared.fault.ServeFault.{ServeFault}
use Rattle.zk_model.specs.Ensembles.{profile_by}
use Rattle.zk_client_port.proofs.execution.sync.Goals as goal

pub returns : goal.returns
returns g c =
    subst (λ (it : Result (Option ℕ) ServeFault). RequestsTo (profile_by (g.Q.Quorums.passes c.args.quorums.now)).setting Syncs c.args.host.now c.sync-stepped.new.self it) (sym c.tag_after.ensures)
    (requested (profile_by (g.Q.Quorums.passes c.args.quorums.now)).setting Syncs c.args.host.now c.issue_tag.new.self c.sync-stepped.new.self
    c.in-Some.tag c.in-Some.ensures.tag c.in-Some.ensures.counted c.issue_tag.ensures.rest c.sync-stepped.ensures.rest c.sync-stepped.result c.sync-stepped.ensures.steps)
