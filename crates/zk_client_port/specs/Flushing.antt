-- The replies and reads of a connection, in the order of its requests. ZooKeeper Programmer's Guide,
-- "Consistency Guarantees": a read is made once the requests before it have their replies.
use Rattle.std.specs.Prelude.{◌≡◌, ◌⊎◌, ℕ, ℤ, int_lt, true, List, [], ◌∷◌, Some, None, Result, Ok, Err}
use Rattle.zk_hub.specs.Reads.{Reader, reader, last_at, KeepsNodes}
use Rattle.zk_hub.specs.Replies.{reply_to, after_ask, last_seen, IsNear}
use Rattle.zk_client_port.specs.Execution.{Served, served}
use Rattle.zk_client_port.specs.Results.{with_outcome}
use Rattle.zk_client_port.specs.declared.admission.Admission.{Admission}
use Rattle.zk_client_port.specs.declared.expected.Expected.{Expected}
use Rattle.zk_client_port.specs.declared.expected.Expected.TheVariants.{Read}
use Rattle.zk_connections.specs.Connections.{lost, with_reply}
use Rattle.zk_connections.specs.declared.connection.Connection.{Connection}
use Rattle.zk_hub.specs.declared.outcome.Outcome.{Outcome}
use Rattle.zk_host.specs.declared.replica_host.ReplicaHost.{ReplicaHost}
use Rattle.zk_hub.specs.Hubs.{next_read, replies_for, without_connection, without_read, without_ready}
use Rattle.zk_hub.specs.declared.request.Reply.{Reply}
use Rattle.zk_client_session.specs.declared.ask.Ask.{Ask}
use Rattle.zk_client_session.specs.declared.expected_reply.ExpectedReply.{ExpectedReply}
use Rattle.zk_client_session.specs.declared.reply.Reply.{Reply as LinkReply}
use Rattle.zk_path.specs.declared.memory.NoMemory.{NoMemory}

-- ---- replies

abbrev pub with_replies : Admission → ℤ → List (Reply Expected Outcome) → Connection → Connection
with_replies admission last [] it = it
with_replies admission last (reply ∷ replies) it =
    with_replies admission last replies (with_outcome admission last reply.expected reply.result it)

-- those that its connection can have now are written
abbrev pub after_replies : {S : Type 0} → Admission → ℕ → Served S → Served S
after_replies admission number it =
    served it.host (without_ready number it.hub) (with_replies admission it.host.tree.tree.last (replies_for number it.hub) it.connection)

-- ---- a read

-- the reply is that of the tree which the server has delivered, and its watch is set
abbrev pub with_read_reply : ExpectedReply → LinkReply → Reader → Reader
with_read_reply expected reply it = reader it.tree (with_reply expected reply it.connection)

abbrev pub after_read : ℕ → Ask → ExpectedReply → Reader → Reader
after_read server ask expected it = with_read_reply expected (reply_to server ask it) (after_ask server ask it)

-- a client that has seen more than its server is cut off
pub data ReadsTo (server : ℕ) (ask : Ask) (expected : ExpectedReply) (old new : Reader) : Type 0 where
  Replied : (near : IsNear ask (last_at old)) (read : new ≡ after_read server ask expected old) → ReadsTo server ask expected old new
  Behind : (seen : int_lt (last_at old) (last_seen ask) ≡ true) (cut : new.connection ≡ lost new.connection) (kept : KeepsNodes old new) → ReadsTo server ask expected old new

abbrev pub Reads : ℕ → Expected → Reader → Reader → Result (Unit {0}) NoMemory → Type 0
Reads server (Read ask expected) old new (Ok _) = ReadsTo server ask expected old new
Reads server other old new (Ok _) = new ≡ reader old.tree (lost old.connection)
Reads server expected old new (Err fault) = Unit {0}

abbrev pub reader_of : {S : Type 0} → Served S → Reader
reader_of it = reader it.host.tree it.connection

-- what a read leaves of its server: all but watches
pub record KeepsServer {S : Type 0} (old new : ReplicaHost S) : Type 0 where
  pub tree : new.tree.tree ≡ old.tree.tree
  pub news : new.tree.news ≡ []
  pub host : new.host ≡ old.host
  pub shown : new.shown ≡ old.shown
  pub tags : new.tags ≡ old.tags

-- ---- all that can be written now

-- the read that is the connection's first request
pub record ReadsNext {S : Type 0} (server number : ℕ) (expected : Expected) (old new : Served S) : Type 0 where
  pub next : next_read number old.hub ≡ Some expected
  pub taken : new.hub ≡ without_read number old.hub
  pub reads : Reads server expected (reader_of old) (reader_of new) (Ok tt)
  pub server_kept : KeepsServer old.host new.host

-- replies, and then a read, again and again
abbrev pub MakesReads : {S : Type 0} → Admission → ℕ → ℕ → List Expected → Served S → Served S → Type 0
MakesReads {S} admission server number [] old new = new ≡ old
MakesReads {S} admission server number (expected ∷ reads) old new =
    (between : Served S) × ReadsNext server number expected (after_replies admission number old) between
    × MakesReads admission server number reads between new

-- until no read is next
pub record HasFlushed {S : Type 0} (admission : Admission) (server : ℕ) (old new : Served S) : Type 0 where
  pub reads : List Expected
  pub between : Served S
  pub makes : MakesReads admission server old.connection.number reads old between
  pub replies : new ≡ after_replies admission old.connection.number between
  pub none : next_read old.connection.number new.hub ≡ None

-- ---- memory runs out

-- some of the connection's replies are lost; the requests of the other connections stay, or all are lost
pub record LosesReplies {S : Type 0} (old new : Served S) : Type 0 where
  pub server_kept : KeepsServer old.host new.host
  pub others : (new.hub ≡ []) ⊎ (without_connection old.connection.number new.hub ≡ without_connection old.connection.number old.hub)
