-- What a connection's client is sent, also where the connection is cut off. ZooKeeper Programmer's
-- Guide, "Consistency Guarantees", single system image: "A client will see the same view of the
-- service regardless of the server that it connects to". A client shows its next server the zxid of
-- the last header.
use Rattle.std.specs.Prelude.{◌≡◌, ℕ, ℤ, ◌≤ℤ◌, pos, int_lt, List, [], ◌∷◌, ◌++◌, take, drop, Bool, true, false, Option, Some, None, if◌then◌else◌}
use Rattle.std.specs.List.{AllByRecursion}
use Rattle.zk_client_session.specs.ConnectionWatches.{fires}
use Rattle.zk_client_session.specs.Links.{seeing}
use Rattle.zk_client_session.specs.Replies.{after_reply, bytes_of, event_frame, headed, immediate_bytes, immediate_reply, is_begun, reply_to}
use Rattle.zk_client_session.specs.declared.ask.Immediate.{Immediate}
use Rattle.zk_client_session.specs.declared.expected_reply.ExpectedReply.{ExpectedReply}
use Rattle.zk_client_session.specs.declared.link.Link.{Link}
use Rattle.zk_client_session.specs.declared.reply.Reply.{Reply}
use Rattle.zk_connections.specs.Connections.{closing, lost, may_open, new_connection, no_session, with_event, with_immediate, with_no_session, with_output, with_reply, with_session}
use Rattle.zk_connections.specs.Inputs.{taken_of}
use Rattle.zk_connections.specs.declared.connection.Connection.{Connection}
use Rattle.zk_connections.specs.declared.connection.Phase.{Phase}
use Rattle.zk_connections.specs.declared.connection.Phase.TheVariants.{New, Connecting, Connected}
use Rattle.zk_connections.specs.declared.input.Taken.{Taken}
use Rattle.zk_frames.specs.Frames.{framed}
use Rattle.zk_frames.specs.Replies.{connect_response_of}
use Rattle.zk_frames.specs.declared.reply.ConnectResponse.{ConnectResponse}
use Rattle.zk_machine.specs.declared.change.ChangeKind.{ChangeKind}

-- ---- what happens to a connection: a call that succeeds, or a write to its socket

pub data Happens (old new : Connection) : Type 0 where
  Fires : (kind : ChangeKind) (path : List ℕ) (is : new ≡ with_event kind path old) → Happens old new
  Replies : (expected : ExpectedReply) (reply : Reply) (is : new ≡ with_reply expected reply old) → Happens old new
  RepliesAtOnce : (last : ℤ) (immediate : Immediate) (is : new ≡ with_immediate last immediate old) → Happens old new
  Opens : (response : ConnectResponse) (seen : ℤ) (is : new ≡ with_session response seen old) → Happens old new
  Rejects : (read_only : Option Bool) (is : new ≡ with_no_session read_only old) → Happens old new
  Prints : (text : List ℕ) (is : new ≡ closing (with_output text old)) → Happens old new
  -- the first bytes of what waits are sent
  Sends : (count : ℕ) (is : new ≡ record old { output = drop count old.output }) → Happens old new
  Closes : (is : new ≡ closing old) → Happens old new
  CutsOff : (is : new ≡ lost old) → Happens old new
  Takes : (taken : Option Taken) (is : taken_of old ≡ (new, taken)) → Happens old new
  -- it hears bytes, begins a turn, changes its watches
  Rests : (phase : new.phase ≡ old.phase) (output : new.output ≡ old.output) (closes : new.closes ≡ old.closes) → Happens old new

-- a connection after each thing that happens to it
abbrev pub Life : Connection → List Connection → Type 0
Life old [] = Unit {0}
Life old (new ∷ later) = Happens old new × Life new later

abbrev pub last_of : Connection → List Connection → Connection
last_of old [] = old
last_of old (new ∷ later) = last_of new later

-- ---- what is written to it

pub data Written : Type 0 where
  Session : (response : ConnectResponse) → Written
  NoSession : (read_only : Option Bool) → Written
  Text : (text : List ℕ) → Written
  Event : (kind : ChangeKind) (path : List ℕ) → Written
  -- to a client that has seen what its server has
  Answer : (link : Link) (expected : ExpectedReply) (reply : Reply) → Written
  AtOnce : (link : Link) (immediate : Immediate) → Written

abbrev pub bytes_in : Written → List ℕ
bytes_in (Session response) = framed (connect_response_of response)
bytes_in (NoSession read_only) = framed (connect_response_of (no_session read_only))
bytes_in (Text text) = text
bytes_in (Event kind path) = event_frame kind path
bytes_in (Answer link expected reply) = bytes_of link expected reply
bytes_in (AtOnce link immediate) = immediate_bytes link immediate

-- the zxid of its header, if it has one
abbrev pub header_in : Written → List ℤ
header_in (Answer link expected reply) = if is_begun expected.kind then [] else (headed link (reply_to expected reply)).zxid ∷ []
header_in (AtOnce link immediate) = (immediate_reply link.seen immediate).zxid ∷ []
header_in other = []

abbrev pub all_bytes : List Written → List ℕ
all_bytes [] = []
all_bytes (one ∷ its) = bytes_in one ++ all_bytes its

abbrev pub headers : List Written → List ℤ
headers [] = []
headers (one ∷ its) = header_in one ++ headers its

-- events and replies need a session
abbrev pub event_at : Phase → ChangeKind → List ℕ → Connection → List Written
event_at (Connected link) kind path it = if fires kind path it.watches then Event kind path ∷ [] else []
event_at other kind path it = []

abbrev pub reply_at : Phase → ExpectedReply → Reply → List Written
reply_at (Connected link) expected reply = Answer (after_reply link reply) expected reply ∷ []
reply_at other expected reply = []

abbrev pub immediate_at : Phase → ℤ → Immediate → List Written
immediate_at (Connected link) last immediate = AtOnce (seeing link last) immediate ∷ []
immediate_at other last immediate = []

abbrev pub opened_at : Bool → ConnectResponse → List Written
opened_at may response = if may then Session response ∷ [] else []

abbrev pub asked_by : (old new : Connection) → Happens old new → List Written
asked_by old new (Fires kind path is) = event_at old.phase kind path old
asked_by old new (Replies expected reply is) = reply_at old.phase expected reply
asked_by old new (RepliesAtOnce last immediate is) = immediate_at old.phase last immediate
asked_by old new (Opens response seen is) = opened_at (may_open old) response
asked_by old new (Rejects read_only is) = NoSession read_only ∷ []
asked_by old new (Prints text is) = Text text ∷ []
asked_by old new (Sends count is) = []
asked_by old new (Closes is) = []
asked_by old new (CutsOff is) = []
asked_by old new (Takes taken is) = []
asked_by old new (Rests phase output closes) = []

-- nothing, once it closes
abbrev pub written_by : (old new : Connection) → Happens old new → List Written
written_by old new it = if old.closes then [] else asked_by old new it

abbrev pub written : (old : Connection) (later : List Connection) → Life old later → List Written
written old [] life = []
written old (new ∷ later) life = written_by old new life.0 ++ written new later life.1

-- ---- what its client is sent

abbrev pub sent_by : (old new : Connection) → Happens old new → List ℕ
sent_by old new (Sends count is) = take count old.output
sent_by old new other = []

abbrev pub sent : (old : Connection) (later : List Connection) → Life old later → List ℕ
sent old [] life = []
sent old (new ∷ later) life = sent_by old new life.0 ++ sent new later life.1

-- ---- the laws

-- What its client is sent, and what waits, is all that was written, from its first byte on: nothing
-- is left out before a byte that is sent. At the end some may be dropped.
abbrev pub NothingIsLeftOut : Type 0
NothingIsLeftOut = (number : ℕ) (later : List Connection) (life : Life (new_connection number) later) →
    (dropped : List ℕ) × (all_bytes (written (new_connection number) later life)
    ≡ (sent (new_connection number) later life ++ (last_of (new_connection number) later).output) ++ dropped)

-- no event, and no reply to a request, is the first; a session is given once
abbrev pub IsFirst : Written → Type 0
IsFirst (Event kind path) = ⊥
IsFirst (Answer link expected reply) = ⊥
IsFirst (AtOnce link immediate) = ⊥
IsFirst other = Unit {0}

abbrev pub gives_session : Written → Bool
gives_session (Session response) = true
gives_session other = false

abbrev pub IsConversation : List Written → Type 0
IsConversation [] = Unit {0}
IsConversation (first ∷ later) = IsFirst first × AllByRecursion (λ it. gives_session it ≡ false) later

-- the response to a connect request comes before any reply to a request after it, and once
abbrev pub TheSessionComesFirst : Type 0
TheSessionComesFirst = (number : ℕ) (later : List Connection) (life : Life (new_connection number) later) →
    IsConversation (written (new_connection number) later life)

-- a client ignores the headers of special replies, which are 0 or -1
abbrev pub remembered : ℤ → ℤ → ℤ
remembered last zxid = if int_lt (pos 0) zxid then zxid else last

abbrev pub NoneFalls : ℤ → List ℤ → Type 0
NoneFalls last [] = Unit {0}
NoneFalls last (zxid ∷ zxids) = (last ≤ℤ remembered last zxid) × NoneFalls (remembered last zxid) zxids

-- what a client remembers of headers never falls
abbrev pub HeadersNeverFall : Type 0
HeadersNeverFall = (number : ℕ) (later : List Connection) (life : Life (new_connection number) later) →
    NoneFalls (pos 0) (headers (written (new_connection number) later life))
