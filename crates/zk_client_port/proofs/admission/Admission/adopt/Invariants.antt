-- The sessions so far are adopted.
use Rattle.std.proofs.Common.{◌≡◌, drop}
use Rattle.zk_client_port.specs.Sessions.{adopted}
use Rattle.zk_client_port.proofs.admission.Admission.adopt.Given as goal

abbrev pub invariant-loop-one : goal.invariant-loop-one
invariant-loop-one l = record {
  sessions : adopted l.fn.now (drop l.one-index l.known) l.self.sessions ≡ adopted l.fn.now l.fn.known l.fn.self.sessions;
  secret : l.self.secret ≡ l.fn.self.secret;
}
