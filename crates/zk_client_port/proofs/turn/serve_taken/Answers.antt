use Rattle.std.proofs.Common.{◌≡◌, Err, refl, rules}
use Rattle.zk_client_port.proofs.Frames.{if_err}
use Rattle.zk_client_port.specs.Execution.{served}
use Rattle.zk_client_port.specs.Serving.{BreaksTaken, Unwritten}
use Rattle.zk_client_port.specs.declared.fault.ServeFault.TheVariants as faults
use Rattle.zk_model.specs.Ensembles.{profile_by}
use Rattle.zk_client_port.proofs.turn.serve_taken.Goals as goal

pub returns-clause-serves : goal.returns-clause-serves
returns-clause-serves g c = record {
  hears = search rules;
  ready = c.in_ok-ready.ready;
  between = served c.execute.new.host c.execute.new.hub c.execute.new.connection;
  executes = search rules;
  flushes = c.in_ok-flush_if.ensures.flushed;
}

pub returns-in_err-flush_if-clause-breaks : goal.returns-in_err-flush_if-clause-breaks
returns-in_err-flush_if-clause-breaks g c =
    let is : c.from_residual-in_err-flush_if.result ≡ Err faults.Connection = search rules in
    if_err c.from_residual-in_err-flush_if.result
    (BreaksTaken (profile_by (g.Q.Quorums.passes c.args.quorums.now)).setting c.args.moment c.args.taken (served c.args.host.now c.args.hub.now c.args.connection.now) c.args.admission.now
    (served c.flush_if.new.host c.flush_if.new.hub c.flush_if.new.connection) c.hear.new.admission)
    faults.Connection is
    (Unwritten (search rules) c.in_ok-ready.ready (served c.execute.new.host c.execute.new.hub c.execute.new.connection) (search rules) c.in_err-flush_if.ensures.loses refl)
