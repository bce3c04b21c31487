use Rattle.std.proofs.Common.{◌≡◌, rules, slice_set, refl, subst}
use Rattle.zk_client_port.proofs.Breaking.{fails_at}
use Rattle.zk_client_port.proofs.Serving.{executed, lost_at}
use Rattle.zk_client_port.specs.Execution.{served}
use Rattle.zk_client_port.specs.Serving.{Breaks}
use Rattle.zk_client_port.specs.declared.fault.ServeFault.{ServeFault}
use Rattle.zk_client_port.specs.declared.fault.ServeFault.TheVariants as faults
use Rattle.zk_client_port.specs.Turns.{server}
use Rattle.zk_model.specs.Ensembles.{profile_by}
use Rattle.zk_client_port.proofs.client_port.ClientPort.serve_at.Goals as goal

pub returns-in-Ok-clause-serves : goal.returns-in-Ok-clause-serves
returns-in-Ok-clause-serves g c =
    executed (profile_by (g.Q.Quorums.passes c.args.quorums.now)).setting c.args.moment c.args.index (server c.args.host.now c.args.self.now.hub c.args.self.now.connections.items c.args.admission.now)
    (server c.serve.new.host c.serve.new.hub (slice_set c.args.self.now.connections.items c.args.index c.serve.new.connection) c.serve.new.admission) c.index_mut-connection.result.now c.serve.new.connection
    c.requires.within (search rules) c.in-Ok.ensures.serves refl

pub returns-in-Err-Connection-clause-serves : goal.returns-in-Err-Connection-clause-serves
returns-in-Err-Connection-clause-serves g c =
    let fault_is : c.in-Err-Connection.field-0 ≡ faults.Connection = search rules in
    lost_at (profile_by (g.Q.Quorums.passes c.args.quorums.now)).setting c.args.moment c.args.index (server c.args.host.now c.args.self.now.hub c.args.self.now.connections.items c.args.admission.now)
    (server c.serve.new.host c.cut_off_if_lost.new.self.hub c.cut_off_if_lost.new.self.connections.items c.serve.new.admission) c.index_mut-connection.result.now c.serve.new.connection c.serve.new.hub
    (slice_set c.args.self.now.connections.items c.args.index c.cut_off.new.self) c.requires.within (search rules) c.in-Err-Connection.ensures.kept
    (subst (λ (fault : ServeFault). Breaks (profile_by (g.Q.Quorums.passes c.args.quorums.now)).setting c.args.moment (served c.args.host.now c.args.self.now.hub c.index_mut-connection.result.now) c.args.admission.now (served c.serve.new.host c.serve.new.hub c.serve.new.connection) c.serve.new.admission fault) fault_is c.in-Err-Connection.ensures.breaks)
    c.cut_off_if_lost.ensures.hub (search rules) c.cut_off_if_lost.ensures.connections

pub returns-in-Err-Host-clause-breaks : goal.returns-in-Err-Host-clause-breaks
returns-in-Err-Host-clause-breaks g c =
    let fault_is : c.in-Err-Host.field-0 ≡ faults.Host = search rules in
    fails_at (profile_by (g.Q.Quorums.passes c.args.quorums.now)).setting c.args.moment c.args.index (server c.args.host.now c.args.self.now.hub c.args.self.now.connections.items c.args.admission.now)
    c.index_mut-connection.result.now (served c.serve.new.host c.serve.new.hub c.serve.new.connection) c.serve.new.admission c.serve.new.host
    c.requires.within (search rules)
    (subst (λ (fault : ServeFault). Breaks (profile_by (g.Q.Quorums.passes c.args.quorums.now)).setting c.args.moment (served c.args.host.now c.args.self.now.hub c.index_mut-connection.result.now) c.args.admission.now (served c.serve.new.host c.serve.new.hub c.serve.new.connection) c.serve.new.admission fault) fault_is c.in-Err-Host.ensures.breaks) refl
