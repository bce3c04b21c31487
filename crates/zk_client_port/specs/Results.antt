-- What the outcome of a request writes to its connection. ZooKeeper Programmer's Guide, "ZooKeeper
-- Sessions": a client that reconnects gets its session, with the timeout that it negotiates then.
use Rattle.std.specs.Prelude.{ℕ, ℤ, pos, Bool, List, Option, Some, None, if◌then◌else◌}
use Rattle.std.specs.Ordering.{int_eq}
use Rattle.zk_client_port.specs.Demands.{is_open}
use Rattle.zk_client_port.specs.declared.admission.Admission.{Admission}
use Rattle.zk_client_port.specs.declared.expected.Expected.{Expected}
use Rattle.zk_client_port.specs.declared.expected.Expected.TheVariants.{Opened, Attached, Replied, Read, Known, Closed}
use Rattle.zk_client_port.specs.declared.expected.Opening.{Opening}
use Rattle.zk_client_port.specs.declared.result.Attachment.{Attachment}
use Rattle.zk_connections.specs.Connections.{may_open, with_session, with_no_session, with_reply, with_immediate, closing, lost}
use Rattle.zk_connections.specs.declared.connection.Connection.{Connection}
use Rattle.zk_hub.specs.declared.outcome.Outcome.{Outcome}
use Rattle.zk_hub.specs.declared.outcome.Outcome.TheVariants as outcomes
use Rattle.zk_frames.specs.declared.reply.ConnectResponse.{ConnectResponse}
use Rattle.zk_client_session.specs.declared.expected_reply.ExpectedReply.{ExpectedReply}
use Rattle.zk_client_session.specs.declared.reply.Reply.TheVariants as replies
use Rattle.zk_connections.specs.Passwords.{password_of}
use Rattle.zk_requests.specs.Timeouts.{clamp}

-- ---- sessions

abbrev pub response_to : List ℕ → ℤ → Opening → ConnectResponse
response_to secret session opening = record {
  timeout = clamp opening.timeout;
  session = session;
  password = password_of secret session;
  read_only = opening.read_only;
}

abbrev pub attachment : ℤ → ℕ → Opening → Attachment
attachment session connection opening = record { session = session; connection = connection; timeout = clamp opening.timeout }

-- a connection that closes takes no session from another
abbrev pub attachment_if : Bool → Attachment → Option Attachment
attachment_if may it = if may then Some it else None

-- a session has the number of the transaction that creates it
abbrev pub with_opened : Admission → Opening → Outcome → Connection → Connection
with_opened admission opening (outcomes.Wrote result) it =
    if int_eq result.err (pos 0) then with_session (response_to admission.secret result.zxid opening) opening.seen it else lost it
with_opened admission opening other it = lost it

abbrev pub opened_by : Connection → Opening → Outcome → Option Attachment
opened_by it opening (outcomes.Wrote result) =
    if int_eq result.err (pos 0) then attachment_if (may_open it) (attachment result.zxid it.number opening) else None
opened_by it opening other = None

-- a session may have ended while the server caught up
abbrev pub with_attached : Admission → ℤ → Opening → Connection → Connection
with_attached admission session opening it =
    if is_open session admission.sessions then with_session (response_to admission.secret session opening) opening.seen it
    else with_no_session opening.read_only it

abbrev pub attached_by : Admission → ℤ → Connection → Opening → Option Attachment
attached_by admission session it opening =
    if is_open session admission.sessions then attachment_if (may_open it) (attachment session it.number opening) else None

-- ---- replies

abbrev pub with_replied : ℤ → ExpectedReply → ℤ → Outcome → Connection → Connection
with_replied last expected time (outcomes.Wrote result) it = with_reply expected (replies.Wrote result time) it
with_replied last expected time outcomes.Synced it = with_reply expected (replies.CaughtUp last) it
with_replied last expected time outcomes.Known it = lost it

-- ---- any outcome, at a server whose last transaction is this

abbrev pub with_outcome : Admission → ℤ → Expected → Outcome → Connection → Connection
with_outcome admission last (Opened opening) outcome it = with_opened admission opening outcome it
with_outcome admission last (Attached session opening) outcome it = with_attached admission session opening it
with_outcome admission last (Replied expected time) outcome it = with_replied last expected time outcome it
with_outcome admission last (Known immediate) outcome it = with_immediate last immediate it
with_outcome admission last Closed outcome it = closing it
with_outcome admission last (Read ask expected) outcome it = lost it

-- the session that the connection gets
abbrev pub gained_by : Admission → Connection → Expected → Outcome → Option Attachment
gained_by admission it (Opened opening) outcome = opened_by it opening outcome
gained_by admission it (Attached session opening) outcome = attached_by admission session it opening
gained_by admission it other outcome = None
