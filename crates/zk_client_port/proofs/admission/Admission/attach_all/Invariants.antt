-- The sessions so far are attached.
use Rattle.std.proofs.Common.{◌≡◌, ◌++◌, drop}
use Rattle.zk_client_port.specs.Sessions.{after_attachments, displaced_by_all}
use Rattle.zk_client_port.proofs.admission.Admission.attach_all.Given as goal

abbrev pub invariant-loop-attachment : goal.invariant-loop-attachment
invariant-loop-attachment l = record {
  sessions : after_attachments l.fn.now (drop l.attachment-index l.gained) l.self.sessions ≡ after_attachments l.fn.now l.fn.gained l.fn.self.sessions;
  displaced : l.displaced.items ++ displaced_by_all l.fn.now (drop l.attachment-index l.gained) l.self.sessions ≡ l.fn.displaced.items ++ displaced_by_all l.fn.now l.fn.gained l.fn.self.sessions;
  secret : l.self.secret ≡ l.fn.self.secret;
}
