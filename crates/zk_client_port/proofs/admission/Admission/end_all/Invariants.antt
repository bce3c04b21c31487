-- The sessions so far are removed.
use Rattle.std.proofs.Common.{◌≡◌, drop}
use Rattle.zk_client_port.specs.Sessions.{after_ends}
use Rattle.zk_client_port.proofs.admission.Admission.end_all.Given as goal

abbrev pub invariant-loop-session : goal.invariant-loop-session
invariant-loop-session l = record {
  sessions : after_ends (drop l.session-index l.closed) l.self.sessions ≡ after_ends l.fn.closed l.fn.self.sessions;
  secret : l.self.secret ≡ l.fn.self.secret;
}
