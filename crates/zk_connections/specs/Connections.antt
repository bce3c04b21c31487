-- A client's connection, and what is written to it. ZooKeeper Programmer's Guide, "ZooKeeper
-- Sessions" and "ZooKeeper Watches".
use Rattle.std.specs.Prelude.{ℕ, ℤ, pos, List, [], ◌∷◌, ◌++◌, length, nat_lt, Bool, true, false, not, ◌&&◌, ◌||◌, Option, Some, None, is_none, if◌then◌else◌}
use Rattle.zk_connections.specs.declared.connection.Connection.{Connection}
use Rattle.zk_connections.specs.declared.connection.Phase.{Phase}
use Rattle.zk_connections.specs.declared.connection.Phase.TheVariants.{New, Connected}
use Rattle.zk_connections.specs.declared.word.Word.{Word}
use Rattle.zk_frames.specs.Frames.{framed}
use Rattle.zk_frames.specs.Replies.{connect_response_of}
use Rattle.zk_frames.specs.declared.reply.ConnectResponse.{ConnectResponse}
use Rattle.zk_client_session.specs.ConnectionWatches.{fires, left_by, no_watches}
use Rattle.zk_client_session.specs.Links.{attached, seeing}
use Rattle.zk_client_session.specs.Replies.{after_reply, bytes_of, closes_by, closes_after, event_frame, immediate_bytes}
use Rattle.zk_client_session.specs.declared.ask.Immediate.{Immediate}
use Rattle.zk_client_session.specs.declared.expected_reply.ExpectedReply.{ExpectedReply}
use Rattle.zk_client_session.specs.declared.reply.Reply.{Reply}
use Rattle.zk_machine.specs.declared.change.ChangeKind.{ChangeKind}

-- the most that is taken in a turn: frames, and watches of a setWatches
abbrev pub most_work : ℕ
most_work = 1024

abbrev pub new_connection : ℕ → Connection
new_connection number = record {
  number = number;
  peer = None;
  phase = New;
  watches = no_watches;
  input = [];
  output = [];
  left = None;
  work = most_work;
  listing = None;
  ends = false;
  closes = false;
}

-- ---- what is written

-- nothing, once the connection closes: what its client is sent has no gap
abbrev pub appended : Connection → List ℕ → List ℕ
appended it bytes = if it.closes then it.output else it.output ++ bytes

abbrev pub with_output : List ℕ → Connection → Connection
with_output bytes it = record it { output = appended it bytes }

-- an event is written if it fires one of the connection's watches, which is then spent
abbrev pub event_bytes : ChangeKind → List ℕ → Connection → List ℕ
event_bytes kind path it = if fires kind path it.watches then event_frame kind path else []

abbrev pub with_event_in : Phase → ChangeKind → List ℕ → Connection → Connection
with_event_in (Connected link) kind path it = record it { watches = left_by kind path it.watches; output = appended it (event_bytes kind path it) }
with_event_in other kind path it = it

abbrev pub with_event : ChangeKind → List ℕ → Connection → Connection
with_event kind path it = with_event_in it.phase kind path it

-- the reply to closeSession is the last
abbrev pub with_reply_in : Phase → ExpectedReply → Reply → Connection → Connection
with_reply_in (Connected link) expected reply it = record it {
  phase = Connected (after_reply link reply);
  output = appended it (bytes_of (after_reply link reply) expected reply);
  closes = it.closes || closes_by expected.kind;
}
with_reply_in other expected reply it = it

abbrev pub with_reply : ExpectedReply → Reply → Connection → Connection
with_reply expected reply it = with_reply_in it.phase expected reply it

-- a reply that needs no service, from a server whose last transaction is this
abbrev pub with_immediate_in : Phase → ℤ → Immediate → Connection → Connection
with_immediate_in (Connected link) last immediate it = record it {
  phase = Connected (seeing link last);
  output = appended it (immediate_bytes (seeing link last) immediate);
  closes = it.closes || closes_after immediate;
}
with_immediate_in other last immediate it = it

abbrev pub with_immediate : ℤ → Immediate → Connection → Connection
with_immediate last immediate it = with_immediate_in it.phase last immediate it

-- ---- sessions

abbrev pub session_in : Phase → Option ℤ
session_in (Connected link) = Some link.session
session_in other = None

abbrev pub session_of : Connection → Option ℤ
session_of it = session_in it.phase

-- a connection gets one session at most, and none once it closes
abbrev pub may_open : Connection → Bool
may_open it = not it.closes && is_none (session_of it)

-- it has the session of the response, whose client has seen a transaction
abbrev pub with_session : ConnectResponse → ℤ → Connection → Connection
with_session response seen it = if may_open it then record it {
  phase = Connected (attached response.session seen);
  output = it.output ++ framed (connect_response_of response);
} else it

abbrev pub zeros : List ℕ
zeros = 0 ∷ 0 ∷ 0 ∷ 0 ∷ 0 ∷ 0 ∷ 0 ∷ 0 ∷ 0 ∷ 0 ∷ 0 ∷ 0 ∷ 0 ∷ 0 ∷ 0 ∷ 0 ∷ []

-- there is no such session, or it is another client's
abbrev pub no_session : Option Bool → ConnectResponse
no_session read_only = record { timeout = pos 0; session = pos 0; password = zeros; read_only = read_only }

abbrev pub closing : Connection → Connection
closing it = record it { ends = true; closes = true }

abbrev pub with_no_session : Option Bool → Connection → Connection
with_no_session read_only it = closing (with_output (framed (connect_response_of (no_session read_only))) it)

abbrev pub is_new : Phase → Bool
is_new New = true
is_new other = false

-- ---- a client that does not read

-- no more of its input is taken: more than 1 MB waits to be sent
abbrev pub is_slow : Connection → Bool
is_slow it = nat_lt 1048576 (length it.output)

-- ---- the end

-- the word whose reply is a list that is not written yet
abbrev pub awaited : Connection → Option Word
awaited it = if it.closes then None else it.listing

-- what waits to be sent is dropped
abbrev pub lost : Connection → Connection
lost it = record (closing it) { output = [] }

-- it can be closed
abbrev pub is_over : Connection → Bool
is_over it = it.closes && nat_lt (length it.output) 1
