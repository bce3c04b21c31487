-- An ensemble: a world of servers, and what each shows of its delivered list; and the effect of one
-- event. Own; the world's rules are Zab's, the effect of a transaction is the table's, and watches
-- are those of the ZooKeeper Programmer's Guide, "ZooKeeper Watches".
use Rattle.std.specs.Prelude.{ℕ, ℤ, ◌-◌, Bool, List, [], ◌∷◌, ◌++◌, length, drop, replicate, set, slice_get, Option, Some, None, Result, Ok, Err, if◌then◌else◌, int_lt}
use Rattle.std.specs.Int.{w64, cast_unsigned}
use Rattle.std.specs.Ordering.{int_eq}
use Rattle.zab_epoch.specs.declared.history.Entry.{Entry}
use Rattle.zab_model.specs.declared.event.Moved.{Moved}
use Rattle.zab_model.specs.declared.fault.WorldFault.{WorldFault}
use Rattle.zab_model.specs.ProcessStates.{ProcessState}
use Rattle.zab_model.specs.Runs.{delivered_of}
use Rattle.zab_model.specs.Worlds as zab
use Rattle.zab_model.specs.Movers.{mover}
use Rattle.zab_model.specs.Running.{is_running}
use Rattle.zab_model.specs.Worlds.{World, Profile, profile_of, new_world, is_server, running}
use Rattle.zk_machine.specs.Changes.{changes_of}
use Rattle.zk_requests.specs.declared.call.Call.{Call}
use Rattle.zk_requests.specs.Requests.{is_open, closing_call}
use Rattle.zk_model.specs.Entries.{entry_of}
use Rattle.zk_model.specs.declared.answer.Answer.{Answer}
use Rattle.zk_model.specs.declared.answer.Answer.TheVariants.{Moved as HasMoved, Looked}
use Rattle.zk_model.specs.declared.answer.Answered.{Answered}
use Rattle.zk_model.specs.declared.event.Event.{Event}
use Rattle.zk_model.specs.declared.event.Event.TheVariants as events
use Rattle.zk_model.specs.declared.event.Question.{Question}
use Rattle.zk_model.specs.declared.fault.EnsembleFault.{EnsembleFault}
use Rattle.zk_model.specs.declared.fault.EnsembleFault.TheVariants as faults
use Rattle.zk_model.specs.Refusals.{ensemble_fault_of}
use Rattle.zk_table.specs.declared.read.ReadCall.{ReadCall}
use Rattle.zk_table.specs.declared.read.ReadCall.TheVariants.{GetData, Exists, GetChildren}
use Rattle.zk_table.specs.declared.read.ReadReply.{ReadReply}
use Rattle.zk_table.specs.declared.read.ReadReply.TheVariants.{Content, Found, Children, Refused}
use Rattle.zk_table.specs.declared.result.TxnResult.{TxnResult}
use Rattle.zk_table.specs.declared.txn.Op.{Op}
use Rattle.zk_table.specs.declared.txn.Op.TheVariants.{CloseSession}
use Rattle.zk_table.specs.declared.txn.Txn.{Txn}
use Rattle.zk_table.specs.Codes.{no_node, session_expired}
use Rattle.zk_table.specs.Replies.{path_read}
use Rattle.zk_table.specs.Reads.{reply_to}
use Rattle.zk_table.specs.States.{State, start_state}
use Rattle.zk_table.specs.Steps.{step}
use Rattle.zk_watch.specs.declared.watch.Watch.{Watch}
use Rattle.zk_watch.specs.declared.watch.WatchKind.{WatchKind}
use Rattle.zk_watch.specs.declared.watch.WatchKind.TheVariants as kinds
use Rattle.zk_watch.specs.declared.watch.Fired.{Fired}
use Rattle.zk_watch.specs.Watching.{fired_by, left_after, with_watch, without_session}

-- what a server shows: its tree, the result of each delivered entry, its watches, and the events
-- fired
pub record ReplicaView : Type 0 where
  pub tree : State
  pub answers : List Answered
  pub watches : List Watch
  pub events : List Fired

-- a server that has delivered nothing, as one that is down
abbrev pub fresh : ReplicaView
fresh = record { tree = start_state; answers = []; watches = []; events = [] }

-- the world, and what its servers show, from server 1 on
pub record Ensemble : Type 0 where
  pub world : World Call
  pub shown : List ReplicaView

abbrev pub ensemble : World Call → List ReplicaView → Ensemble
ensemble world shown = record { world = world; shown = shown }

abbrev pub new_ensemble : ℕ → Ensemble
new_ensemble servers = ensemble (new_world servers) (replicate servers fresh)

abbrev pub Told : Type 0
Told = Result Answer EnsembleFault

-- the parameters of the rules: which sets of servers are quorums, and how a leader turns calls into
-- entries
abbrev pub profile_by : (List Bool → Bool) → Profile Call
profile_by passes = profile_of passes entry_of (λ call. call.tag) closing_call

-- ---- an entry is delivered

abbrev pub answered : Entry → TxnResult → Answered
answered entry result = record { tag = entry.tag; session = entry.txn.session; result = result }

-- a session that closes gets no event of it: its watches are removed first
abbrev pub waiting_by : Op → ℤ → List Watch → List Watch
waiting_by CloseSession session watches = without_session (cast_unsigned w64 session) watches
waiting_by op session watches = watches

abbrev pub waiting : Txn → List Watch → List Watch
waiting txn watches = waiting_by txn.op txn.session watches

abbrev pub take_in : ReplicaView → Entry → ReplicaView
take_in it entry = record {
  tree = (step it.tree entry.txn).0;
  answers = it.answers ++ answered entry (step it.tree entry.txn).1 ∷ [];
  watches = left_after (changes_of it.tree entry.txn) (waiting entry.txn it.watches);
  events = it.events ++ fired_by (changes_of it.tree entry.txn) (waiting entry.txn it.watches);
}

abbrev pub take_all : ReplicaView → List Entry → ReplicaView
take_all it [] = it
take_all it (entry ∷ entries) = take_all (take_in it entry) entries

-- what a server shows that had delivered `n` entries, and now these
abbrev pub shown_then : Bool → ℕ → List Entry → ReplicaView → ReplicaView
shown_then runs before now it = if runs then take_all it (drop before now) else fresh

-- ---- one of the servers

abbrev pub replica_at : List ReplicaView → ℕ → Option ReplicaView
replica_at servers number = if is_server (length servers) number then slice_get servers (number - 1) else None

abbrev pub changed_at : (ReplicaView → ReplicaView) → List ReplicaView → ℕ → Option ReplicaView → List ReplicaView
changed_at change servers number None = servers
changed_at change servers number (Some it) = set servers (number - 1) (change it)

-- the server with this number, if there is one, shows this instead
abbrev pub at_server : (ReplicaView → ReplicaView) → List ReplicaView → ℕ → List ReplicaView
at_server change servers number = changed_at change servers number (replica_at servers number)

-- ---- events of the world

abbrev pub of_world : Result Moved WorldFault → Told
of_world (Ok moved) = Ok (HasMoved moved)
of_world (Err fault) = Err (ensemble_fault_of fault)

-- the server that the event would change delivers what is new
abbrev pub moves : Ensemble → ℕ → World Call × Result Moved WorldFault → Ensemble × Told
moves x number next = (
  ensemble next.0 (at_server (shown_then (is_running next.0 number) (length (delivered_of x.world number)) (delivered_of next.0 number)) x.shown number),
  of_world next.1,
)

-- ---- reads

-- A read sets a watch if it finds its node; Exists also if there is none.
abbrev pub kind_set : ReadCall → ReadReply → Option WatchKind
kind_set (GetData path) (Content content stat) = Some kinds.Content
kind_set (Exists path) (Found stat) = Some kinds.Content
kind_set (Exists path) (Refused code) = if int_eq code no_node then Some kinds.Content else None
kind_set (GetChildren path) (Children names stat) = Some kinds.Children
kind_set call reply = None

abbrev pub with_set : List ℕ → ℤ → List Watch → Option WatchKind → List Watch
with_set path session watches None = watches
with_set path session watches (Some kind) = with_watch (cast_unsigned w64 session) kind path watches

abbrev pub watching : Question → ReadReply → ReplicaView → ReplicaView
watching question reply it = record it { watches = (if question.watch then with_set (path_read question.call) question.session it.watches (kind_set question.call reply) else it.watches) }

-- -112 for a session that is not open in the server's tree
abbrev pub reply_of : Question → State → ReadReply
reply_of question tree = if is_open tree question.session then reply_to tree question.call question.auths else Refused session_expired

-- a server that has delivered less than the client has seen rejects the read
abbrev pub looks : Ensemble → Question → Option ReplicaView → Ensemble × Told
looks x question None = (x, Err faults.NoServer)
looks x question (Some it) =
    if int_lt it.tree.last question.seen then (x, Err (faults.Behind question.seen it.tree.last))
    else (ensemble x.world (at_server (watching question (reply_of question it.tree)) x.shown question.server), Ok (Looked (reply_of question it.tree)))

abbrev pub reads : Ensemble → Question → Result ProcessState WorldFault → Ensemble × Told
reads x question (Ok _) = looks x question (replica_at x.shown question.server)
reads x question (Err fault) = (x, Err (ensemble_fault_of fault))

-- ---- one event: the ensemble after it, and the answer

abbrev pub happens : Profile Call → Ensemble → Event → Ensemble × Told
happens profile x (events.World event) = moves x (mover x.world event) (zab.happens profile x.world event)
happens profile x (events.Read question) = reads x question (running x.world.servers question.server)
