-- A connection's read of its server's tree, and the watch that it sets. ZooKeeper Programmer's
-- Guide, "ZooKeeper Watches" and "Consistency Guarantees".
use Rattle.std.specs.Prelude.{◌≡◌, ℤ, int_lt, true, false, Result, Ok, Err, if◌then◌else◌}
use Rattle.zk_connections.specs.declared.connection.Connection.{Connection}
use Rattle.zk_host.specs.WatchedTrees.{WatchedTreeView, after_read}
use Rattle.zk_host.specs.declared.host_fault.ReadFault.{ReadFault}
use Rattle.zk_host.specs.declared.host_fault.ReadFault.TheVariants as faults
use Rattle.zk_client_session.specs.ConnectionWatches as own
use Rattle.zk_model.specs.Ensembles.{reply_of}
use Rattle.zk_model.specs.declared.event.Question.{Question}
use Rattle.zk_table.specs.declared.read.ReadReply.{ReadReply}

-- what the server has delivered, with its connections' watches, and one of the connections
pub record Reader : Type 0 where
  pub tree : WatchedTreeView
  pub connection : Connection

abbrev pub reader : WatchedTreeView → Connection → Reader
reader tree connection = record { tree = tree; connection = connection }

-- the last transaction that the server has delivered
abbrev pub last_at : Reader → ℤ
last_at it = it.tree.tree.last

-- the reply is that of the delivered tree
abbrev pub seen_at : Question → Reader → ReadReply
seen_at question it = reply_of question it.tree.tree

-- ---- the watch

abbrev pub with_own_watch : Question → ReadReply → Connection → Connection
with_own_watch question reply it = if question.watch then record it { watches = own.after_read question.call reply it.watches } else it

-- the server and the connection have it
abbrev pub after_look : Question → Reader → Reader
after_look question it =
    reader (after_read it.connection.number question (seen_at question it) it.tree) (with_own_watch question (seen_at question it) it.connection)

-- ---- for each result

-- with any result: a read changes no node, and takes no input
pub record KeepsNodes (old new : Reader) : Type 0 where
  pub tree : new.tree.tree ≡ old.tree.tree
  pub number : new.connection.number ≡ old.connection.number
  pub input : new.connection.input ≡ old.connection.input

-- a server that has delivered less than its client has seen does not reply
abbrev pub IsReason : ℤ → ℤ → ReadFault → Type 0
IsReason last seen (faults.Behind client server) = int_lt last seen ≡ true
IsReason last seen faults.NoMemory = Unit {0}

abbrev pub Looks : Question → Reader → Reader → Result ReadReply ReadFault → Type 0
Looks question old new (Ok reply) =
    (int_lt (last_at old) question.seen ≡ false) × (reply ≡ seen_at question old) × (new ≡ after_look question old)
Looks question old new (Err fault) = IsReason (last_at old) question.seen fault
