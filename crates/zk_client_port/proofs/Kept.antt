-- What is written to a connection keeps its number, and its input.
use Rattle.std.proofs.Common.{◌≡◌, ℕ, ℤ, Bool, true, false, List, if◌then◌else◌, refl}
use Rattle.zk_client_port.specs.Results.{with_outcome, with_opened, with_replied}
use Rattle.zk_client_port.specs.declared.admission.Admission.{Admission}
use Rattle.zk_client_port.specs.declared.expected.Expected.{Expected}
use Rattle.zk_client_port.specs.declared.expected.Expected.TheVariants.{Opened, Attached, Replied, Read, Known, Closed}
use Rattle.zk_client_port.specs.declared.expected.Opening.{Opening}
use Rattle.zk_connections.specs.Connections.{may_open, with_event_in, with_reply_in, with_immediate_in, with_session}
use Rattle.zk_connections.specs.declared.connection.Connection.{Connection}
use Rattle.zk_connections.specs.declared.connection.Phase.{Phase}
use Rattle.zk_connections.specs.declared.connection.Phase.TheVariants.{New, Connecting, Connected}
use Rattle.zk_frames.specs.declared.reply.ConnectResponse.{ConnectResponse}
use Rattle.zk_hub.specs.declared.outcome.Outcome.{Outcome}
use Rattle.zk_hub.specs.declared.outcome.Outcome.TheVariants as outcomes
use Rattle.zk_client_session.specs.declared.ask.Immediate.{Immediate}
use Rattle.zk_client_session.specs.declared.expected_reply.ExpectedReply.{ExpectedReply}
use Rattle.zk_client_session.specs.declared.reply.Reply.{Reply as LinkReply}
use Rattle.zk_watch.specs.declared.watch.Fired.{Fired}

abbrev pub own : Connection → ℕ × List ℕ
own it = (it.number, it.input)

either : (b : Bool) (x y it : Connection) → own x ≡ own it → own y ≡ own it → own (if b then x else y) ≡ own it
either true x y it p q = p
either false x y it p q = q

pub event_keeps : (phase : Phase) (event : Fired) (it : Connection) → own (with_event_in phase event.kind event.path it) ≡ own it
event_keeps New event it = refl
event_keeps Connecting event it = refl
event_keeps (Connected link) event it = refl

pub reply_keeps : (phase : Phase) (expected : ExpectedReply) (reply : LinkReply) (it : Connection) → own (with_reply_in phase expected reply it) ≡ own it
reply_keeps New expected reply it = refl
reply_keeps Connecting expected reply it = refl
reply_keeps (Connected link) expected reply it = refl

immediate_keeps : (phase : Phase) (last : ℤ) (immediate : Immediate) (it : Connection) → own (with_immediate_in phase last immediate it) ≡ own it
immediate_keeps New last immediate it = refl
immediate_keeps Connecting last immediate it = refl
immediate_keeps (Connected link) last immediate it = refl

session_keeps : (response : ConnectResponse) (seen : ℤ) (it : Connection) → own (with_session response seen it) ≡ own it
session_keeps response seen it = either (may_open it) _ it it refl refl

opened_keeps : (admission : Admission) (opening : Opening) (outcome : Outcome) (it : Connection) → own (with_opened admission opening outcome it) ≡ own it
opened_keeps admission opening (outcomes.Wrote result) it = either _ _ _ it (session_keeps _ opening.seen it) refl
opened_keeps admission opening outcomes.Synced it = refl
opened_keeps admission opening outcomes.Known it = refl

replied_keeps : (last : ℤ) (expected : ExpectedReply) (time : ℤ) (outcome : Outcome) (it : Connection) → own (with_replied last expected time outcome it) ≡ own it
replied_keeps last expected time (outcomes.Wrote result) it = reply_keeps it.phase expected _ it
replied_keeps last expected time outcomes.Synced it = reply_keeps it.phase expected _ it
replied_keeps last expected time outcomes.Known it = refl

pub outcome_keeps : (admission : Admission) (last : ℤ) (expected : Expected) (outcome : Outcome) (it : Connection) → own (with_outcome admission last expected outcome it) ≡ own it
outcome_keeps admission last (Opened opening) outcome it = opened_keeps admission opening outcome it
outcome_keeps admission last (Attached session opening) outcome it = either _ _ _ it (session_keeps _ opening.seen it) refl
outcome_keeps admission last (Replied expected time) outcome it = replied_keeps last expected time outcome it
outcome_keeps admission last (Read ask expected) outcome it = refl
outcome_keeps admission last (Known immediate) outcome it = immediate_keeps it.phase last immediate it
outcome_keeps admission last Closed outcome it = refl
