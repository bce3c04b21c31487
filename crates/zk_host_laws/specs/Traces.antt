-- What a host sends its clients: the news of its trace. The trace has the entries that its tree has
-- delivered since the host started, the reads with a reply, and the connections that were closed.
-- ZooKeeper Programmer's Guide, "ZooKeeper Watches" ("Semantics of Watches", "What ZooKeeper Guarantees
-- about Watches").
use Rattle.std.specs.Prelude.{ℕ, ◌==◌, not, List, [], ◌∷◌, ◌++◌, map, filter, Option, Some, None, if◌then◌else◌}
use Rattle.std.specs.Int.{w64, cast_unsigned}
use Rattle.zab_epoch.specs.declared.history.Entry.{Entry}
use Rattle.zk_host.specs.declared.news.Connection.{Connection}
use Rattle.zk_host.specs.declared.news.News.{News}
use Rattle.zk_host.specs.declared.news.News.TheVariants as news
use Rattle.zk_host.specs.WatchedTrees.{watches_for, connections_after, with_connection}
use Rattle.zk_machine.specs.Changes.{changes_of}
use Rattle.zk_model.specs.declared.answer.Answered.{Answered}
use Rattle.zk_model.specs.declared.event.Question.{Question}
use Rattle.zk_model.specs.Ensembles.{answered, kind_set}
use Rattle.zk_table.specs.States.{State, start_state}
use Rattle.zk_table.specs.Steps.{step}
use Rattle.zk_table.specs.declared.read.ReadReply.{ReadReply}
use Rattle.zk_table.specs.declared.txn.Txn.{Txn}
use Rattle.zk_table.specs.Replies.{path_read}
use Rattle.zk_watch.specs.declared.watch.Fired.{Fired}
use Rattle.zk_watch.specs.declared.watch.Watch.{Watch}
use Rattle.zk_watch.specs.declared.watch.WatchKind.{WatchKind}
use Rattle.zk_watch.specs.Watching.{fired_by, left_after, with_watch, without_session}

pub data TraceItem : Type 0 where
  -- the tree delivers an entry
  Delivers : (entry : Entry) → TraceItem
  -- a connection's read gets this reply
  Answers : (connection : ℕ) (question : Question) (reply : ReadReply) → TraceItem
  -- a connection is closed
  Disconnects : (connection : ℕ) → TraceItem

-- the entries of a trace
abbrev pub trace_entries : List TraceItem → List Entry
trace_entries [] = []
trace_entries (Delivers entry ∷ trace) = entry ∷ trace_entries trace
trace_entries (Answers connection question reply ∷ trace) = trace_entries trace
trace_entries (Disconnects connection ∷ trace) = trace_entries trace

-- ---- one item

-- A tree, its watches, each with its connection's number, and the sessions of the connections.
pub record Watched : Type 0 where
  pub tree : State
  pub watches : List Watch
  pub connections : List Connection

abbrev pub unwatched : Watched
unwatched = record { tree = start_state; watches = []; connections = [] }

-- the watches that a transaction may fire: a session that closes gets no event of it
abbrev pub waiting : Txn → Watched → List Watch
waiting txn it = watches_for txn.op txn.session it.connections it.watches

-- the events that a transaction fires, in the order of instruction, path and connection
abbrev pub fired_at : Txn → Watched → List Fired
fired_at txn it = fired_by (changes_of it.tree txn) (waiting txn it)

-- the watch that a read sets
abbrev pub watch_of : Question → ReadReply → Option WatchKind
watch_of question reply = if question.watch then kind_set question.call reply else None

abbrev pub watches_with : ℕ → Question → List Watch → Option WatchKind → List Watch
watches_with connection question watches None = watches
watches_with connection question watches (Some kind) = with_watch connection kind (path_read question.call) watches

abbrev pub connections_with : ℕ → Question → List Connection → Option WatchKind → List Connection
connections_with connection question connections None = connections
connections_with connection question connections (Some kind) =
    with_connection connection (cast_unsigned w64 question.session) connections

-- An entry fires watches, each once. A read sets one. A closed connection has none.
abbrev pub then_item : Watched → TraceItem → Watched
then_item it (Delivers entry) = record {
  tree = (step it.tree entry.txn).0;
  watches = left_after (changes_of it.tree entry.txn) (waiting entry.txn it);
  connections = connections_after entry.txn.op entry.txn.session it.connections;
}
then_item it (Answers connection question reply) = record {
  tree = it.tree;
  watches = watches_with connection question it.watches (watch_of question reply);
  connections = connections_with connection question it.connections (watch_of question reply);
}
then_item it (Disconnects connection) = record {
  tree = it.tree;
  watches = without_session connection it.watches;
  connections = filter (λ one. not (one.number == connection)) it.connections;
}

-- An entry's news are its events, and then its result. A read brings no news.
abbrev pub news_at : Watched → TraceItem → List News
news_at it (Delivers entry) =
    map news.Event (fired_at entry.txn it) ++ news.Answer (answered entry (step it.tree entry.txn).1) ∷ []
news_at it (Answers connection question reply) = []
news_at it (Disconnects connection) = []

-- ---- a trace

abbrev pub after_trace : Watched → List TraceItem → Watched
after_trace it [] = it
after_trace it (item ∷ trace) = after_trace (then_item it item) trace

abbrev pub news_from : Watched → List TraceItem → List News
news_from it [] = []
news_from it (item ∷ trace) = news_at it item ++ news_from (then_item it item) trace

-- the news of a host with this trace, since it started
abbrev pub trace_news : List TraceItem → List News
trace_news trace = news_from unwatched trace

-- the results among the news
abbrev pub results_in : List News → List Answered
results_in [] = []
results_in (news.Event fired ∷ some) = results_in some
results_in (news.Answer answered ∷ some) = answered ∷ results_in some
