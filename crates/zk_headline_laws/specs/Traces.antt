-- What fires a server's watches: its trace, the entries that it has delivered since it last started
-- and the accepted reads between them. ZooKeeper Programmer's Guide, "ZooKeeper Watches".
use Rattle.std.specs.Prelude.{ℕ, ◌==◌, List, [], ◌∷◌, ◌++◌, map, length, drop, take, Ok, if◌then◌else◌}
use Rattle.zab_epoch.specs.declared.history.Entry.{Entry}
use Rattle.zab_model.specs.Running.{is_running}
use Rattle.zab_model.specs.Runs.{delivered_of}
use Rattle.zab_model.specs.Worlds.{Profile}
use Rattle.zk_machine.specs.Changes.{changes_of}
use Rattle.zk_requests.specs.declared.call.Call.{Call}
use Rattle.zk_model.specs.declared.answer.Answer.TheVariants.{Looked}
use Rattle.zk_model.specs.declared.event.Event.{Event}
use Rattle.zk_model.specs.declared.event.Event.TheVariants as kinds
use Rattle.zk_model.specs.declared.event.Question.{Question}
use Rattle.zk_model.specs.Ensembles.{Ensemble, Told, new_ensemble, happens, waiting, kind_set, with_set}
use Rattle.zk_table.specs.States.{State, start_state}
use Rattle.zk_table.specs.Steps.{step}
use Rattle.zk_table.specs.declared.read.ReadReply.{ReadReply}
use Rattle.zk_table.specs.Replies.{path_read}
use Rattle.zk_watch.specs.declared.watch.Fired.{Fired}
use Rattle.zk_watch.specs.declared.watch.Watch.{Watch}
use Rattle.zk_watch.specs.Watching.{fired_by, left_after}

-- an entry that a server delivers, or an accepted read
pub data TraceItem : Type 0 where
  Delivers : (entry : Entry) → TraceItem
  Answers : (question : Question) (reply : ReadReply) → TraceItem

-- ---- a server's trace

-- the read accepted by an event
abbrev pub asked_by : ℕ → Event → Told → List TraceItem
asked_by server (kinds.Read question) (Ok (Looked reply)) = if question.server == server then (Answers question reply ∷ []) else []
asked_by server event told = []

-- the trace after one more event: what the server delivers by it, and the read that it accepts;
-- empty if it is down
abbrev pub trace_then : Ensemble → ℕ → Event → Ensemble × Told → List TraceItem → List TraceItem
trace_then x server event next met =
    if is_running next.0.world server
    then met ++ (map Delivers (drop (length (delivered_of x.world server)) (delivered_of next.0.world server)) ++ asked_by server event next.1)
    else []

abbrev pub trace_from : Profile Call → Ensemble → ℕ → List TraceItem → List Event → List TraceItem
trace_from profile x server met [] = met
trace_from profile x server met (event ∷ events) =
    trace_from profile (happens profile x event).0 server (trace_then x server event (happens profile x event) met) events

-- a server's trace after the first `n` events of a run
abbrev pub trace_after : Profile Call → ℕ → List Event → ℕ → ℕ → List TraceItem
trace_after profile servers events after server = trace_from profile (new_ensemble servers) server [] (take after events)

-- the entries of a trace
abbrev pub trace_entries : List TraceItem → List Entry
trace_entries [] = []
trace_entries (Delivers entry ∷ met) = entry ∷ trace_entries met
trace_entries (Answers question reply ∷ met) = trace_entries met

-- ---- the events that it fires

-- an accepted read sets its watch
abbrev pub set_by : Question → ReadReply → List Watch → List Watch
set_by question reply watches = if question.watch then with_set (path_read question.call) question.session watches (kind_set question.call reply) else watches

-- the watches after a trace, from a tree and watches on
abbrev pub watches_from : State → List Watch → List TraceItem → List Watch
watches_from tree watches [] = watches
watches_from tree watches (Delivers entry ∷ met) =
    watches_from (step tree entry.txn).0 (left_after (changes_of tree entry.txn) (waiting entry.txn watches)) met
watches_from tree watches (Answers question reply ∷ met) = watches_from tree (set_by question reply watches) met

-- the events of a trace: for each entry, what it changes in the tree of the entries before, for the
-- watches set by then
abbrev pub fired_from : State → List Watch → List TraceItem → List Fired
fired_from tree watches [] = []
fired_from tree watches (Delivers entry ∷ met) =
    fired_by (changes_of tree entry.txn) (waiting entry.txn watches)
    ++ fired_from (step tree entry.txn).0 (left_after (changes_of tree entry.txn) (waiting entry.txn watches)) met
fired_from tree watches (Answers question reply ∷ met) = fired_from tree (set_by question reply watches) met

abbrev pub trace_events : List TraceItem → List Fired
trace_events met = fired_from start_state [] met

abbrev pub watches_in : List TraceItem → List Watch
watches_in met = watches_from start_state [] met
