-- The sessions so far are renewed.
use Rattle.std.proofs.Common.{◌≡◌, drop}
use Rattle.zk_client_port.specs.Sessions.{renewed}
use Rattle.zk_client_port.proofs.admission.Admission.renew.Given as goal

abbrev pub invariant-loop-session : goal.invariant-loop-session
invariant-loop-session l = record {
  sessions : renewed l.fn.now (drop l.session-index l.known) l.self.sessions ≡ renewed l.fn.now l.fn.known l.fn.self.sessions;
  secret : l.self.secret ≡ l.fn.self.secret;
}
