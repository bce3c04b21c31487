-- The hosts of one ensemble on a network, each with the tree that its clients read.
use Rattle.std.specs.Prelude.{ℕ, ◌==◌, int_lt, List, [], ◌∷◌, ◌++◌, length, take, drop, map, if◌then◌else◌}
use Rattle.zab_epoch.specs.declared.history.Entry.{Entry}
use Rattle.zab_model.specs.Runs.{delivered_of}
use Rattle.zab_model.specs.Worlds.{Profile}
use Rattle.zab_host_laws.specs.Hosts.{Network, Step, Restarts, new_network, after_step, MayStepAll}
use Rattle.zk_host.specs.declared.news.News.{News}
use Rattle.zk_host.specs.WatchedTrees.{WatchedTreeView, new_tree, after_entries, after_read, after_close}
use Rattle.zk_host_laws.specs.Traces.{TraceItem, Delivers, Answers, Disconnects}
use Rattle.zk_model.specs.declared.event.Question.{Question}
use Rattle.zk_model.specs.Ensembles.{reply_of}
use Rattle.zk_requests.specs.declared.call.Call.{Call}

-- a host's tree with its watches and the news that no client has taken; the number of delivered
-- entries in the tree; the news that clients have taken since the host started, and its trace
pub record HostTree : Type 0 where
  pub watched : WatchedTreeView
  pub shown : ℕ
  pub taken : List News
  pub trace : List TraceItem

-- a host that has just started
abbrev pub new_host : HostTree
new_host = record { watched = new_tree; shown = 0; taken = []; trace = [] }

-- the hosts' servers and messages, and the tree of each host
pub record HostEnsemble : Type 0 where
  pub network : Network Call
  pub host : ℕ → HostTree

abbrev pub new_hosts : ℕ → HostEnsemble
new_hosts servers = record { network = new_network servers; host = λ number. new_host }

-- ---- actions

pub data Action : Type 0 where
  -- a host's server takes an input, or restarts, as of the moment at which that is stored
  Steps : (step : Step Call) → Action
  -- a host releases its messages: its tree delivers what its server has delivered
  Releases : (number : ℕ) → Action
  -- the same, but out of memory
  Forgets : (number : ℕ) → Action
  -- a connection reads at a host, or is closed
  Reads : (number connection : ℕ) (question : Question) → Action
  Closes : (number connection : ℕ) → Action
  -- clients take a host's news
  Takes : (number : ℕ) → Action

-- the steps among actions
abbrev pub steps_of : List Action → List (Step Call)
steps_of [] = []
steps_of (Steps step ∷ actions) = step ∷ steps_of actions
steps_of (Releases number ∷ actions) = steps_of actions
steps_of (Forgets number ∷ actions) = steps_of actions
steps_of (Reads number connection question ∷ actions) = steps_of actions
steps_of (Closes number connection ∷ actions) = steps_of actions
steps_of (Takes number ∷ actions) = steps_of actions

-- the hosts receive only what was sent, and no two requests share a tag
abbrev pub MayAct : Profile Call → ℕ → List Action → Type 0
MayAct profile servers actions = MayStepAll profile (new_network servers) [] [] (steps_of actions)

-- ---- what an action does at its host

abbrev pub release : List Entry → HostTree → HostTree
release delivered it = record {
  watched = after_entries it.watched (drop it.shown delivered);
  shown = length delivered;
  taken = it.taken;
  trace = it.trace ++ map Delivers (drop it.shown delivered);
}

-- a host rejects the read of a client that has seen more than its tree
abbrev pub read : ℕ → Question → HostTree → HostTree
read connection question it =
    if int_lt it.watched.tree.last question.seen then it else (record {
      watched = after_read connection question (reply_of question it.watched.tree) it.watched;
      shown = it.shown;
      taken = it.taken;
      trace = it.trace ++ Answers connection question (reply_of question it.watched.tree) ∷ [];
    })

abbrev pub close : ℕ → HostTree → HostTree
close connection it = record {
  watched = after_close connection it.watched;
  shown = it.shown;
  taken = it.taken;
  trace = it.trace ++ Disconnects connection ∷ [];
}

abbrev pub take_news : HostTree → HostTree
take_news it = record {
  watched = record it.watched { news = [] };
  shown = it.shown;
  taken = it.taken ++ it.watched.news;
  trace = it.trace;
}

-- ---- the ensemble after actions

abbrev pub at_host : ℕ → (HostTree → HostTree) → (ℕ → HostTree) → ℕ → HostTree
at_host number change host other = if other == number then change (host other) else host other

abbrev pub restart : Step Call → (ℕ → HostTree) → ℕ → HostTree
restart (Restarts number) host = at_host number (λ it. new_host) host
restart step host = host

-- a host changes, and no server
abbrev pub changes : HostEnsemble → ℕ → (HostTree → HostTree) → HostEnsemble
changes x number change = record { network = x.network; host = at_host number change x.host }

abbrev pub after_action : Profile Call → HostEnsemble → Action → HostEnsemble
after_action profile x (Steps step) =
    record { network = after_step profile x.network step; host = restart step x.host }
after_action profile x (Releases number) = changes x number (release (delivered_of x.network number))
after_action profile x (Forgets number) = changes x number (λ it. new_host)
after_action profile x (Reads number connection question) = changes x number (read connection question)
after_action profile x (Closes number connection) = changes x number (close connection)
after_action profile x (Takes number) = changes x number take_news

abbrev pub after_actions : Profile Call → HostEnsemble → List Action → HostEnsemble
after_actions profile x [] = x
after_actions profile x (action ∷ actions) =
    after_actions profile (after_action profile x action) actions

-- `n` hosts after actions
abbrev pub hosts_after : Profile Call → ℕ → List Action → HostEnsemble
hosts_after profile servers actions = after_actions profile (new_hosts servers) actions

-- the entries in a host's tree
abbrev pub shown_by : HostEnsemble → ℕ → List Entry
shown_by x number = take (x.host number).shown (delivered_of x.network number)
