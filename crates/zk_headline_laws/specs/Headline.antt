-- The headline's first half: what holds over every list of events of an ensemble, with any messages
-- lost, repeated or reordered, any servers made to lead, and any crashes. Junqueira, Reed,
-- Serafini: Zab: High-performance broadcast for primary-backup systems (DSN 2011), agreement and
-- total order; ZooKeeper Programmer's Guide, "Consistency Guarantees".
use Rattle.std.specs.Prelude.{◌≡◌, ◌⊎◌, ℕ, ℤ, pos, ◌≤ℤ◌, true, false, List, [], ◌∷◌, ◌++◌, map, take, slice_get, Some, Ok}
use Rattle.std.specs.Int.{w64, cast_unsigned}
use Rattle.zab_epoch.specs.declared.history.Entry.{Entry}
use Rattle.zab_laws.specs.Prefixes.{IsPrefix, last_key}
use Rattle.zab_agreement_laws.specs.Agreement.{Agrees}
use Rattle.zab_agreement_laws.specs.Laws.{IsTaggedOnce}
use Rattle.zab_agreement_laws.specs.Origins.{IsOrigin}
use Rattle.zab_agreement_laws.specs.Syncs.{AreCaught}
use Rattle.zab_model.specs.Runs as zab
use Rattle.zab_model.specs.Worlds.{Profile, is_server}
use Rattle.zk_machine.specs.Changes.{changes_of}
use Rattle.zk_requests.specs.declared.call.Call.{Call}
use Rattle.zab_epoch.specs.Entries.{txns_of}
use Rattle.zk_model.specs.declared.answer.Answer.TheVariants.{Looked}
use Rattle.zk_model.specs.declared.event.Event.{Event}
use Rattle.zk_model.specs.declared.event.Event.TheVariants as kinds
use Rattle.zk_model.specs.declared.event.Question.{Question}
use Rattle.zk_headline_laws.specs.Consequences.{FitEvents, HasConsequences}
use Rattle.zk_model.specs.Ensembles.{Ensemble, ReplicaView, reply_of, waiting}
use Rattle.zk_headline_laws.specs.Traces.{trace_after, trace_entries, trace_events}
use Rattle.zk_model.specs.Runs.{run, in_world, world_count, ensemble_after, replica_after, delivered_after, history_after, answered_of}
use Rattle.zk_table.specs.declared.read.ReadReply.{ReadReply}
use Rattle.zk_table.specs.declared.txn.Op.TheVariants.{CloseSession}
use Rattle.zk_table.specs.declared.txn.Txn.{Txn}
use Rattle.zk_table.specs.Histories.{tree_of, results_of}
use Rattle.zk_table.specs.States.{State}
use Rattle.zk_watch.specs.declared.watch.Watch.{Watch}
use Rattle.zk_watch.specs.Watching.{fired_by}
use Rattle.zk_watch.specs.WatchLaws.{is_told}

-- a server's tree and replies are the table's, transaction by transaction, over its delivered list
pub record ReplicaMatches (delivered : List Entry) (it : ReplicaView) : Type 0 where
  pub tree : it.tree ≡ tree_of (txns_of delivered)
  pub answers : it.answers ≡ answered_of delivered

pub record HasMatchingReplica (profile : Profile Call) (servers : ℕ) (events : List Event) (after server : ℕ) : Type 0 where
  pub it : ReplicaView
  pub is : replica_after profile servers events after server ≡ Some it
  pub shows : ReplicaMatches (delivered_after profile servers events after server) it

-- the results are the table's
abbrev pub HasTableResults : List Entry → Type 0
HasTableResults entries = map (λ answered. answered.result) (answered_of entries) ≡ results_of (txns_of entries)

-- the event at this position is a read with this reply
pub record IsAnswered (profile : Profile Call) (servers : ℕ) (events : List Event) (place : ℕ) (question : Question) (reply : ReadReply) : Type 0 where
  pub asked : slice_get events place ≡ Some (kinds.Read question)
  pub told : slice_get (run profile servers events).1 place ≡ Some (Ok (Looked reply))

-- the last zxid of a list; 0 for an empty one
abbrev pub last_zxid : List Entry → ℤ
last_zxid entries = last_key (λ entry. entry.txn.zxid) (pos 0) entries

-- for every tree and all watches
abbrev pub ClosingIsUntold : Type 0
ClosingIsUntold =
    (tree : State) (txn : Txn) (watches : List Watch) → txn.op ≡ CloseSession
    → is_told (cast_unsigned w64 txn.session) (fired_by (changes_of tree txn) (waiting txn watches)) ≡ false

pub record Headline (profile : Profile Call) (servers : ℕ) (events : List Event) : Type 0 where
  -- each server's tree and replies are the table's over its delivered list, at any time,
  pub shown : (after server : ℕ) → is_server servers server ≡ true → HasMatchingReplica profile servers events after server
  -- and the reply to each accepted read is what that tree holds
  pub told : (place : ℕ) (question : Question) (reply : ReadReply) → IsAnswered profile servers events place question reply
      → reply ≡ reply_of question (tree_of (txns_of (delivered_after profile servers events place question.server)))
  -- The events that a server has fired since it started are those of its trace: the entries of its
  -- delivered list, and the accepted reads between them.
  pub met : (after server : ℕ) → trace_entries (trace_after profile servers events after server) ≡ delivered_after profile servers events after server
  pub fired : (after server : ℕ) (it : ReplicaView) → replica_after profile servers events after server ≡ Some it
      → it.events ≡ trace_events (trace_after profile servers events after server)
  -- And a session that closes gets no event of what is deleted with it.
  pub closing : ClosingIsUntold
  -- of two lists ever delivered, by any servers at any times, one is a prefix of the other
  pub one_order : (i j p q : ℕ) → IsPrefix (delivered_after profile servers events i p) (delivered_after profile servers events j q)
      ⊎ IsPrefix (delivered_after profile servers events j q) (delivered_after profile servers events i p)
  -- each entry of each history is built from an accepted call on the tree of the entries before it
  pub origins : (after server : ℕ) (before : List Entry) (x : Entry) → IsPrefix (before ++ x ∷ []) (history_after profile servers events after server)
      → (call : Call) × IsOrigin profile servers (in_world (take after events)) before x call
  -- A client that changes servers, and passes on what it has seen, never goes back: the server that
  -- replies has delivered all that any server had delivered up to there.
  pub never_back : (place : ℕ) (question : Question) (reply : ReadReply) → IsAnswered profile servers events place question reply
      → (after server : ℕ) → last_zxid (delivered_after profile servers events after server) ≤ℤ question.seen
      → IsPrefix (delivered_after profile servers events after server) (delivered_after profile servers events place question.server)

-- the world under each ensemble of a run is that of the run of the world's own events
abbrev pub HasWorldsOfRun : Profile Call → ℕ → List Event → Type 0
HasWorldsOfRun profile servers events =
    (after : ℕ) → (ensemble_after profile servers events after).world ≡ (zab.run profile servers (take (world_count after events) (in_world events))).0

-- these events lead to this ensemble; and what holds of every run, and of the world's run under it,
-- holds of theirs
pub record IsRunTo (profile : Profile Call) (servers : ℕ) (events : List Event) (it : Ensemble) : Type 0 where
  pub reached : it ≡ (run profile servers events).0
  pub headline : Headline profile servers events
  pub consequences : HasConsequences profile servers events
  pub worlds : HasWorldsOfRun profile servers events
  pub agrees : Agrees profile servers (in_world events)
  pub tagged : IsTaggedOnce profile servers (in_world events)
  pub syncs : AreCaught profile servers (in_world events)

-- some events lead to this ensemble, with sessions that are numbers of 64 bits
pub record IsReached (profile : Profile Call) (servers : ℕ) (it : Ensemble) : Type 0 where
  pub some : List Event
  pub fit : FitEvents some
  pub reached : it ≡ (run profile servers some).0

-- Two ensembles of which the second is the first after the events that count. Some events lead to
-- the first ensemble; and each list of events that does, the caller's own among them, leads to the
-- second one when those that count are appended.
pub record IsNextInRun (profile : Profile Call) (servers : ℕ) (before : Ensemble) (counted : List Event) (next : Ensemble) : Type 0 where
  pub reached : IsReached profile servers before
  pub fit : FitEvents counted
  pub every : (events : List Event) → before ≡ (run profile servers events).0
      → IsRunTo profile servers (events ++ counted) next
