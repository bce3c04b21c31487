-- The tree of a host's delivered entries, the watches of its connections, and the news that its
-- clients have not taken yet. ZooKeeper Programmer's Guide, "ZooKeeper Watches".
use Rattle.std.specs.Prelude.{ℕ, ℤ, ◌==◌, ◌&&◌, Bool, not, List, [], ◌∷◌, ◌++◌, map, filter, Option, Some, None, if◌then◌else◌, refl}
use Rattle.std.specs.Coded.{Coded, code_by, coded×, coded_list}
use Rattle.std.specs.Int.{w64, cast_unsigned}
use Rattle.std.specs.List.{list_any}
use Rattle.zab_epoch.specs.declared.history.Entry.{Entry}
use Rattle.zk_host.specs.declared.news.Connection.{Connection}
use Rattle.zk_host.specs.declared.news.News.{News}
use Rattle.zk_host.specs.declared.news.News.TheVariants.{Event, Answer}
use Rattle.zk_machine.specs.Changes.{changes_of}
use Rattle.zk_model.specs.declared.event.Question.{Question}
use Rattle.zk_model.specs.Ensembles.{answered, kind_set}
use Rattle.zk_table.specs.States.{State, start_state, state_code}
use Rattle.zk_table.specs.Steps.{step}
use Rattle.zk_table.specs.declared.node.Node.{Node}
use Rattle.zk_table.specs.declared.read.ReadReply.{ReadReply}
use Rattle.zk_table.specs.declared.txn.Op.{Op}
use Rattle.zk_table.specs.declared.txn.Op.TheVariants.{CloseSession}
use Rattle.zk_table.specs.declared.txn.Txn.{Txn}
use Rattle.zk_table.specs.Replies.{path_read}
use Rattle.zk_watch.specs.declared.watch.Watch.{Watch}
use Rattle.zk_watch.specs.declared.watch.WatchKind.{WatchKind}
use Rattle.zk_watch.specs.Watching.{fired_by, left_after, with_watch, without_session}

-- a watch's session is here the number of its connection
pub record WatchedTreeView : Type 0 where
  pub tree : State
  pub watches : List Watch
  pub connections : List Connection
  pub news : List News

abbrev pub new_tree : WatchedTreeView
new_tree = record { tree = start_state; watches = []; connections = []; news = [] }

-- ---- an entry

-- without the watches of a session's connections
abbrev pub without_connections : ℕ → List Connection → List Watch → List Watch
without_connections session [] watches = watches
without_connections session (connection ∷ connections) watches =
    without_connections session connections (if connection.session == session then without_session connection.number watches else watches)

-- a session that closes gets no event of it: its connections' watches are dropped first
abbrev pub watches_for : Op → ℤ → List Connection → List Watch → List Watch
watches_for CloseSession session connections watches = without_connections (cast_unsigned w64 session) connections watches
watches_for op session connections watches = watches

abbrev pub connections_after : Op → ℤ → List Connection → List Connection
connections_after CloseSession session connections = filter (λ connection. not (connection.session == cast_unsigned w64 session)) connections
connections_after op session connections = connections

-- the watches before a transaction fires them
abbrev pub waiting_watches : Txn → WatchedTreeView → List Watch
waiting_watches txn it = watches_for txn.op txn.session it.connections it.watches

-- with an entry's events, in the order of instruction, path and connection, and then its result
abbrev pub news_after : WatchedTreeView → Entry → List News
news_after it entry =
    it.news ++ map Event (fired_by (changes_of it.tree entry.txn) (waiting_watches entry.txn it))
    ++ Answer (answered entry (step it.tree entry.txn).1) ∷ []

abbrev pub after_entry : WatchedTreeView → Entry → WatchedTreeView
after_entry it entry = record {
  tree = (step it.tree entry.txn).0;
  watches = left_after (changes_of it.tree entry.txn) (waiting_watches entry.txn it);
  connections = connections_after entry.txn.op entry.txn.session it.connections;
  news = news_after it entry;
}

abbrev pub after_entries : WatchedTreeView → List Entry → WatchedTreeView
after_entries it [] = it
after_entries it (entry ∷ entries) = after_entries (after_entry it entry) entries

-- ---- a read

abbrev pub is_connection : ℕ → ℕ → Connection → Bool
is_connection number session connection = (connection.number == number) && (connection.session == session)

abbrev pub with_connection : ℕ → ℕ → List Connection → List Connection
with_connection number session connections =
    if list_any (is_connection number session) connections then connections
    else connections ++ record { number = number; session = session } ∷ []

abbrev pub with_watch_set : ℕ → Question → WatchedTreeView → Option WatchKind → WatchedTreeView
with_watch_set number question it None = it
with_watch_set number question it (Some kind) = record it {
  watches = with_watch number kind (path_read question.call) it.watches;
  connections = with_connection number (cast_unsigned w64 question.session) it.connections;
}

-- a connection's read with this reply sets its watch
abbrev pub after_read : ℕ → Question → ReadReply → WatchedTreeView → WatchedTreeView
after_read number question reply it = if question.watch then with_watch_set number question it (kind_set question.call reply) else it

-- ---- the end of a connection

abbrev pub after_close : ℕ → WatchedTreeView → WatchedTreeView
after_close number it = record it {
  watches = without_session number it.watches;
  connections = filter (λ connection. not (connection.number == number)) it.connections;
}

-- ---- its code

abbrev pub tree_code : Coded Node → Coded Watch → Coded Connection → Coded News → Coded WatchedTreeView
tree_code node watch connection news =
    code_by (State × (List Watch × (List Connection × List News))) (coded× (state_code node) (coded× (coded_list watch) (coded× (coded_list connection) (coded_list news)))) (λ s. (s.tree, (s.watches, (s.connections, s.news)))) (λ p. record { tree = p.0; watches = p.1.0; connections = p.1.1.0; news = p.1.1.1 }) (λ _. refl)
