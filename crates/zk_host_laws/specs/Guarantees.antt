-- What clients of hosts see, after any actions of any number of hosts.
-- ZooKeeper Programmer's Guide, "Consistency Guarantees" ("Single System Image", "Timeliness") and
-- "ZooKeeper Watches".
use Rattle.std.specs.Prelude.{◌≡◌, ◌⊎◌, ℕ, ◌≤◌, ◌≤ℤ◌, false, int_lt, List, ◌++◌, length, Some}
use Rattle.std.specs.List.{Contains}
use Rattle.zab_broadcast.specs.declared.syncs.Caught.{Caught}
use Rattle.zab_epoch.specs.declared.history.Entry.{Entry}
use Rattle.zab_epoch.specs.Entries.{txns_of}
use Rattle.zab_host_laws.specs.Syncs.{SyncsAreCaught}
use Rattle.zab_laws.specs.Prefixes.{IsPrefix}
use Rattle.zab_model.specs.ProcessStates.{ProcessState}
use Rattle.zab_model.specs.Runs.{delivered_of, delivered_after, syncs_of}
use Rattle.zab_model.specs.Worlds.{Profile, server_at}
use Rattle.zk_host.specs.Delivered.{delivered_in}
use Rattle.zk_host_laws.specs.HostTrees.{HostTree, HostEnsemble, Action, Releases, MayAct, after_action, hosts_after, shown_by}
use Rattle.zk_host_laws.specs.Traces.{unwatched, after_trace, trace_entries, trace_news, results_in}
use Rattle.zk_model.specs.declared.event.Question.{Question}
use Rattle.zk_model.specs.Ensembles.{reply_of}
use Rattle.zk_model.specs.Runs.{answered_of}
use Rattle.zk_requests.specs.declared.call.Call.{Call}
use Rattle.zk_table.specs.Histories.{tree_of}

-- a fact of each host, after any actions
abbrev pub AtEachHost : Profile Call → (HostEnsemble → ℕ → Type 0) → Type 0
AtEachHost profile Fact =
    (servers : ℕ) (actions : List Action) → MayAct profile servers actions
    → (number : ℕ) → Fact (hosts_after profile servers actions) number

-- ---- trees

-- A host's tree is the table's over the first `shown` entries that its server has delivered.
pub record ShowsDelivered (x : HostEnsemble) (number : ℕ) : Type 0 where
  -- the server has delivered all of them: `ReleaseFault::Shrunk` never comes
  pub within : (x.host number).shown ≤ length (delivered_of x.network number)
  pub tree : (x.host number).watched.tree ≡ tree_of (txns_of (shown_by x number))

abbrev pub TreesShowWhatIsDelivered : Profile Call → Type 0
TreesShowWhatIsDelivered profile = AtEachHost profile ShowsDelivered

-- What a host's release delivers by its contract is what its server on the network has delivered.
abbrev pub ReleasesDeliver : Type 0
ReleasesDeliver =
    (x : HostEnsemble) (number : ℕ) (it : ProcessState)
    → server_at x.network.servers number ≡ Some it
    → delivered_in it.state ≡ delivered_of x.network number

-- After a release these are all that the server has delivered.
abbrev pub ReleasesShowAll : Profile Call → Type 0
ReleasesShowAll profile =
    AtEachHost profile
    (λ x number. shown_by (after_action profile x (Releases number)) number ≡ delivered_of x.network number)

-- ---- news

-- The news since a host started, taken or not, are those of its trace. The trace's entries are
-- those of the tree. The results among the news are the table's, one for each entry, in order.
pub record FollowsTheTrace (it : HostTree) (shown : List Entry) : Type 0 where
  pub entries : trace_entries it.trace ≡ shown
  pub news : it.taken ++ it.watched.news ≡ trace_news it.trace
  pub results : results_in (it.taken ++ it.watched.news) ≡ answered_of shown
  -- the watches that still wait
  pub watches : it.watched.watches ≡ (after_trace unwatched it.trace).watches

abbrev pub NewsFollowsTheTrace : Profile Call → Type 0
NewsFollowsTheTrace profile =
    AtEachHost profile (λ x number. FollowsTheTrace (x.host number) (shown_by x number))

-- ---- one order

-- a fact of the hosts at two moments
abbrev pub AtTwoMoments : Profile Call → (HostEnsemble → HostEnsemble → Type 0) → Type 0
AtTwoMoments profile Fact =
    (servers : ℕ) (before between : List Action) → MayAct profile servers (before ++ between)
    → Fact (hosts_after profile servers before) (hosts_after profile servers (before ++ between))

-- Of what two hosts show, each at any time, one is a prefix of the other.
abbrev pub Agree : HostEnsemble → HostEnsemble → Type 0
Agree earlier later =
    (p q : ℕ)
    → IsPrefix (shown_by earlier p) (shown_by later q)
    ⊎ IsPrefix (shown_by later q) (shown_by earlier p)

abbrev pub TreesAgree : Profile Call → Type 0
TreesAgree profile = AtTwoMoments profile Agree

-- The reply to a client that has seen what host `seen_at` showed.
pub record GoesOn (earlier later : HostEnsemble) (seen_at asked_at : ℕ) (question : Question) : Type 0 where
  -- all that the client has seen is in the tree that it reads,
  pub seen : IsPrefix (shown_by earlier seen_at) (shown_by later asked_at)
  -- and the reply is what that tree holds
  pub reply : reply_of question (later.host asked_at).watched.tree
      ≡ reply_of question (tree_of (txns_of (shown_by later asked_at)))

-- A client has seen what a host showed, up to some zxid at most. Later it passes on that zxid to a
-- host, the same or another, restarted or not, which accepts its read.
abbrev pub NeverGoesBack : HostEnsemble → HostEnsemble → Type 0
NeverGoesBack earlier later =
    (seen_at asked_at : ℕ) (question : Question)
    → (earlier.host seen_at).watched.tree.last ≤ℤ question.seen
    → int_lt (later.host asked_at).watched.tree.last question.seen ≡ false
    → GoesOn earlier later seen_at asked_at question

abbrev pub ReadsNeverGoBack : Profile Call → Type 0
ReadsNeverGoBack profile = AtTwoMoments profile NeverGoesBack

-- ---- syncs

-- A tree that shows a completed sync's number of entries shows all that the leader of the sync's
-- epoch had delivered when the sync was taken.
pub record SyncsAreShown (profile : Profile Call) (servers : ℕ) (x : HostEnsemble) : Type 0 where
  pub run : SyncsAreCaught profile servers x.network
  pub shown : (number : ℕ) (it : Caught) (has : Contains (syncs_of x.network number) it)
      → it.length ≤ (x.host number).shown
      → IsPrefix
      (delivered_after profile servers run.events (run.caught number it has).place (run.caught number it has).leader)
      (shown_by x number)
  -- the host's next release shows them
  pub released : (number : ℕ) (it : Caught) → Contains (syncs_of x.network number) it
      → it.length ≤ ((after_action profile x (Releases number)).host number).shown

abbrev pub SyncedReadsAreCurrent : Profile Call → Type 0
SyncedReadsAreCurrent profile =
    (servers : ℕ) (actions : List Action) → MayAct profile servers actions
    → SyncsAreShown profile servers (hosts_after profile servers actions)
