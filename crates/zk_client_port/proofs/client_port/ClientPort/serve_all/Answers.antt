use Rattle.std.proofs.Common.{ℕ, rules, add-one, sym, subst}
use Rattle.zk_client_port.proofs.Asking.{fail_asking, first_ask}
use Rattle.zk_client_port.proofs.Breaking.{fails_after}
use Rattle.zk_client_port.proofs.Frames.{on_err}
use Rattle.zk_client_port.proofs.Serving.{one_more}
use Rattle.zk_client_port.specs.Turns.{server, ServesFirst}
use Rattle.zk_model.specs.Ensembles.{profile_by}
use Rattle.zk_client_port.proofs.client_port.ClientPort.serve_all.Goals as goal

pub connections-preserved : goal.connections-preserved
connections-preserved g c = record {
  serves =
      subst (λ (places : ℕ). ServesFirst (profile_by (g.Q.Quorums.passes c.args.quorums.now)).setting c.args.moment places (server c.args.host.now c.args.self.now.hub c.args.self.now.connections.items c.args.admission.now)
      (server c.serve_at.new.host c.serve_at.new.self.hub c.serve_at.new.self.connections.items c.serve_at.new.admission)) (sym (add-one c.connections.index))
      (one_more (profile_by (g.Q.Quorums.passes c.args.quorums.now)).setting c.args.moment c.connections.index (server c.args.host.now c.args.self.now.hub c.args.self.now.connections.items c.args.admission.now)
      (server c.connections.host c.connections.self.hub c.connections.self.connections.items c.connections.admission) (server c.serve_at.new.host c.serve_at.new.self.hub c.serve_at.new.self.connections.items c.serve_at.new.admission)
      c.connections.invariant.serves c.in_ok-serve_at.ensures.serves);
  kept = search rules;
  count = search rules;
}

pub returns-clause-asks : goal.returns-clause-asks
returns-clause-asks g c =
    first_ask (profile_by (g.Q.Quorums.passes c.args.quorums.now)).setting c.args.moment c.connections.index (server c.args.host.now c.args.self.now.hub c.args.self.now.connections.items c.args.admission.now)
    (server c.connections.host c.connections.self.hub c.connections.self.connections.items c.connections.admission) c.connections.invariant.serves

pub returns-clause-kept : goal.returns-clause-kept
returns-clause-kept g c = c.connections.invariant.kept

pub returns-in_err-serve_at-clause-breaks : goal.returns-in_err-serve_at-clause-breaks
returns-in_err-serve_at-clause-breaks g c =
    on_err _ (fails_after (profile_by (g.Q.Quorums.passes c.args.quorums.now)).setting c.args.moment c.connections.index (server c.args.host.now c.args.self.now.hub c.args.self.now.connections.items c.args.admission.now)
    (server c.connections.host c.connections.self.hub c.connections.self.connections.items c.connections.admission) c.serve_at.new.host c.connections.invariant.serves c.in_err-serve_at.ensures.breaks)

pub returns-in_err-serve_at-clause-fails : goal.returns-in_err-serve_at-clause-fails
returns-in_err-serve_at-clause-fails g c =
    on_err _ (fail_asking (profile_by (g.Q.Quorums.passes c.args.quorums.now)).setting c.args.moment (server c.args.host.now c.args.self.now.hub c.args.self.now.connections.items c.args.admission.now) c.serve_at.new.host
    (fails_after (profile_by (g.Q.Quorums.passes c.args.quorums.now)).setting c.args.moment c.connections.index (server c.args.host.now c.args.self.now.hub c.args.self.now.connections.items c.args.admission.now)
    (server c.connections.host c.connections.self.hub c.connections.self.connections.items c.connections.admission) c.serve_at.new.host c.connections.invariant.serves c.in_err-serve_at.ensures.breaks))
