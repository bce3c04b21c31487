-- The replies to requests that read a server's tree or a connection's watches: `zookeeper.jute`,
-- module `org.apache.zookeeper.proto`; ZooKeeper Programmer's Guide, "Consistency Guarantees".
use Rattle.std.specs.Prelude.{◌≡◌, ℕ, ℤ, pos, int_lt, true, false, Bool, List, Result, Ok, Err, if◌then◌else◌}
use Rattle.zk_acl.specs.declared.acl.Id.{Id}
use Rattle.zk_hub.specs.Reads.{Reader, reader, after_look, last_at, seen_at, IsReason}
use Rattle.zk_hub.specs.Resumptions.{after_watches, events_of}
use Rattle.zk_hub.specs.declared.reading.Resumption.{Resumption}
use Rattle.zk_host.specs.WatchedTrees.{WatchedTreeView}
use Rattle.zk_host.specs.declared.host_fault.ReadFault.{ReadFault}
use Rattle.zk_client_session.specs.ConnectionWatches.{has_any, without_any}
use Rattle.zk_client_session.specs.TreeReads.{descendant_count, ephemerals_of}
use Rattle.zk_client_session.specs.declared.ask.Ask.{Ask}
use Rattle.zk_client_session.specs.declared.ask.Ask.TheVariants.{Write, Read, Sync, SetWatches, RemoveWatches, Ephemerals, CountDescendants}
use Rattle.zk_client_session.specs.declared.reply.Reply.{Reply}
use Rattle.zk_client_session.specs.declared.reply.Reply.TheVariants as replies
use Rattle.zk_model.specs.declared.event.Question.{Question}
use Rattle.zk_table.specs.Replies.{path_read}
use Rattle.zk_table.specs.declared.read.ReadCall.{ReadCall}
use Rattle.zk_table.specs.declared.read.ReadCall.TheVariants as calls
use Rattle.zk_table.specs.declared.read.ReadReply.{ReadReply}
use Rattle.zk_table.specs.declared.read.ReadReply.TheVariants.{Refused}

abbrev pub question : ℕ → ℤ → ℤ → List Id → ReadCall → Bool → Question
question server session seen auths call watch = record {
  server = server;
  session = session;
  seen = seen;
  auths = auths;
  call = call;
  watch = watch;
}

abbrev pub resumption : ℕ → ℤ → ℤ → List Id → Resumption
resumption server session zxid auths = record { server = server; session = session; relative_zxid = zxid; auths = auths }

-- the children of a path, for a caller who may read them
abbrev pub children_at : ℕ → ℤ → ℤ → List Id → List ℕ → Question
children_at server session seen auths path = question server session seen auths (calls.GetChildren path) false

abbrev pub is_refused : ReadReply → Bool
is_refused (Refused code) = true
is_refused other = false

-- the number of nodes below it, for the same callers
abbrev pub count_by : ReadReply → List ℕ → WatchedTreeView → Reply
count_by reply path it =
    if is_refused reply then replies.Read reply it.tree.last
    else replies.Count (descendant_count it.tree.nodes path) it.tree.last

-- ---- the reply at server number `server`

abbrev pub reply_to : ℕ → Ask → Reader → Reply
reply_to server (Read session seen auths call watch) it = replies.Read (seen_at (question server session seen auths call watch) it) (last_at it)
reply_to server (SetWatches session zxid auths watches) it = replies.WatchesSet (events_of (resumption server session zxid auths) watches it) (last_at it)
reply_to server (RemoveWatches path kind) it = replies.WatchesRemoved (has_any kind path it.connection.watches) (last_at it)
reply_to server (Ephemerals session prefix) it = replies.Paths (ephemerals_of it.tree.tree.nodes session prefix) (last_at it)
reply_to server (CountDescendants session seen auths path) it = count_by (seen_at (children_at server session seen auths path) it) path it.tree
reply_to server (Write session cxid auths request) it = replies.CaughtUp (last_at it)
reply_to server (Sync session) it = replies.CaughtUp (last_at it)

-- the watches that it leaves
abbrev pub after_ask : ℕ → Ask → Reader → Reader
after_ask server (Read session seen auths call watch) it = after_look (question server session seen auths call watch) it
after_ask server (SetWatches session zxid auths watches) it = after_watches (resumption server session zxid auths) watches it
after_ask server (RemoveWatches path kind) it = reader it.tree (record it.connection { watches = without_any kind path it.connection.watches })
after_ask server other it = it

-- ---- for each result

-- the last transaction that its client has seen, which the server has delivered
abbrev pub last_seen : Ask → ℤ
last_seen (Read session seen auths call watch) = seen
last_seen (CountDescendants session seen auths path) = seen
last_seen other = pos 0

abbrev pub IsNear : Ask → ℤ → Type 0
IsNear (Read session seen auths call watch) last = int_lt last seen ≡ false
IsNear (CountDescendants session seen auths path) last = int_lt last seen ≡ false
IsNear other last = Unit {0}

abbrev pub Replies : ℕ → Ask → Reader → Reader → Result Reply ReadFault → Type 0
Replies server ask old new (Ok reply) = IsNear ask (last_at old) × (reply ≡ reply_to server ask old) × (new ≡ after_ask server ask old)
Replies server ask old new (Err fault) = IsReason (last_at old) (last_seen ask) fault

abbrev pub Counts : Question → Reader → Reader → Result Reply ReadFault → Type 0
Counts question old new (Ok reply) =
    (int_lt (last_at old) question.seen ≡ false) × (reply ≡ count_by (seen_at question old) (path_read question.call) old.tree) × (new ≡ old)
Counts question old new (Err fault) = IsReason (last_at old) question.seen fault
