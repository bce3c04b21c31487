-- The sessions so far were touched.
use Rattle.std.proofs.Common.{◌≡◌, drop}
use Rattle.zk_client_service.specs.Expiries.{all_touched}
use Rattle.zk_client_service.proofs.expiry.touch_all.Given as goal

abbrev pub invariant-loop-session : goal.invariant-loop-session
invariant-loop-session l = record {
  sessions : all_touched l.fn.now (drop l.session-index l.sessions) l.admission.sessions ≡ all_touched l.fn.now l.fn.sessions l.fn.admission.sessions;
  secret : l.admission.secret ≡ l.fn.admission.secret;
}
