-- Runs: the worlds after lists of events.
use Rattle.std.specs.Prelude.{◌≡◌, ℕ, nat_lt, if◌then◌else◌, List, [], ◌∷◌, length, take, Option, Some, None, IfSome}
use Rattle.zab_epoch.specs.declared.history.Entry.{Entry}
use Rattle.zab_epoch.specs.declared.stable.Stable.{Stable}
use Rattle.zab_broadcast.specs.declared.syncs.Caught.{Caught}
use Rattle.zab_model.specs.declared.event.Event.{Event}
use Rattle.zab_model.specs.ProcessStates.{ProcessState}
use Rattle.zab_model.specs.Worlds.{World, Profile, Answer, new_world, happens, server_at}

-- the world after events, and the answer to each
abbrev pub after : {C : Type 0} → Profile C → World C → List (Event C) → World C
after profile w [] = w
after profile w (event ∷ events) = after profile (happens profile w event).0 events

abbrev pub answers : {C : Type 0} → Profile C → World C → List (Event C) → List Answer
answers profile w [] = []
answers profile w (event ∷ events) = (happens profile w event).1 ∷ answers profile (happens profile w event).0 events

-- a new world of `n` servers after events, with the answer to each
abbrev pub run : {C : Type 0} → Profile C → ℕ → List (Event C) → World C × List Answer
run profile servers events = (after profile (new_world servers) events, answers profile (new_world servers) events)

-- ---- the state of servers

abbrev pub kept : Option ProcessState → Option Stable
kept None = None
kept (Some it) = Some it.state.peer.stable

-- a server's stable part
abbrev pub stable_of : {C : Type 0} → World C → ℕ → Option Stable
stable_of w number = kept (server_at w.servers number)

abbrev pub delivered_list : Option ProcessState → List Entry
delivered_list None = []
delivered_list (Some it) = take it.state.delivered it.state.peer.stable.history

-- a server's delivered list; empty for a server that is down
abbrev pub delivered_of : {C : Type 0} → World C → ℕ → List Entry
delivered_of w number = delivered_list (server_at w.servers number)

abbrev pub history_list : Option ProcessState → List Entry
history_list None = []
history_list (Some it) = it.state.peer.stable.history

abbrev pub history_of : {C : Type 0} → World C → ℕ → List Entry
history_of w number = history_list (server_at w.servers number)

abbrev pub caught_list : Option ProcessState → List Caught
caught_list None = []
caught_list (Some it) = it.state.caught

-- the syncs that a server has completed since it started, in the order of completion
abbrev pub syncs_of : {C : Type 0} → World C → ℕ → List Caught
syncs_of w number = caught_list (server_at w.servers number)

-- a server's delivered list after the first `n` events of a run
abbrev pub delivered_after : {C : Type 0} → Profile C → ℕ → List (Event C) → ℕ → ℕ → List Entry
delivered_after profile servers events count number = delivered_of (run profile servers (take count events)).0 number

-- a server's history after the first `n` events of a run
abbrev pub history_after : {C : Type 0} → Profile C → ℕ → List (Event C) → ℕ → ℕ → List Entry
history_after profile servers events count number = history_of (run profile servers (take count events)).0 number

-- the syncs that a server has completed after the first `n` events of a run
abbrev pub syncs_after : {C : Type 0} → Profile C → ℕ → List (Event C) → ℕ → ℕ → List Caught
syncs_after profile servers events count number = syncs_of (run profile servers (take count events)).0 number

-- the longest delivered list of a server in a run
abbrev pub longer_of : List Entry → List Entry → List Entry
longer_of one other = if nat_lt (length one) (length other) then other else one

abbrev pub longest_from : {C : Type 0} → Profile C → World C → List (Event C) → ℕ → List Entry
longest_from profile w [] number = delivered_of w number
longest_from profile w (event ∷ events) number =
    longer_of (delivered_of w number) (longest_from profile (happens profile w event).0 events number)

abbrev pub longest_delivered : {C : Type 0} → Profile C → ℕ → List (Event C) → ℕ → List Entry
longest_delivered profile servers events number = longest_from profile (new_world servers) events number

-- ---- what the code's worlds contain

-- the quorums, the number of servers, the world, and the one in which the last step's server had
-- crashed instead; none once that is impossible
pub record Sight (Q C : Type 0) : Type 0 where
  pub quorums : Q
  pub servers : ℕ
  pub world : World C
  pub fallen : Option (World C)

-- a world is that of a run
abbrev pub IsOfRun : {C : Type 0} → Profile C → ℕ → World C → Type 0
IsOfRun {C} profile servers w = (events : List (Event C)) × (w ≡ (run profile servers events).0)

-- and so is the other one, if any
pub record AreOfRuns {C : Type 0} (profile : Profile C) (servers : ℕ) (w : World C) (fallen : Option (World C)) : Type 0 where
  pub now : IsOfRun profile servers w
  pub fell : IfSome fallen (IsOfRun profile servers)
