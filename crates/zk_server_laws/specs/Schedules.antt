-- Schedules of the servers of one ensemble: their turns, stops and starts, and what their connections bring.
use Rattle.std.specs.Prelude.{◌≡◌, ◌≢◌, ◌⊎◌, ◌<◌, ℕ, ◌==◌, true, List, [], ◌∷◌, ◌++◌, length, drop, take, filter, Some, if◌then◌else◌}
use Rattle.zab_broadcast.specs.Rules.{restored}
use Rattle.zab_broadcast.specs.declared.state.State.{State}
use Rattle.zab_broadcast.specs.declared.syncs.Caught.{Caught}
use Rattle.zab_epoch.specs.declared.history.Entry.{Entry}
use Rattle.zab_epoch.specs.declared.message.Message.{Message}
use Rattle.zab_epoch.specs.declared.stable.Stable.{Stable}
use Rattle.zab_host.specs.Hosts.{HostView}
use Rattle.zab_host_laws.specs.Composition.{messages_in}
use Rattle.zab_host_laws.specs.TakenSyncs.{HasTaken}
use Rattle.zab_laws.specs.Prefixes.{IsPrefix}
use Rattle.zab_model.specs.ProcessStates.{standing}
use Rattle.zab_model.specs.Worlds.{Profile, is_server, server_at}
use Rattle.zab_host_laws.specs.Hosts.{Step, new_network, after_steps, MayStepAll}
use Rattle.zk_server_laws.specs.Turns.{Turn, TurnsTo, StopsWith, Narrows, StartsOn}

-- one server between its turns
pub data Site (C S : Type 0) : Type 0 where
  -- it runs, and all that it has is stored; the number of its starts, and of its requests since the last
  Runs : (host : HostView C S) (boot used : ℕ) → Site C S
  -- it stopped in a turn; its state before that turn, its starts and requests by then, and what became of its store
  Stopped : (last : State) (boot used : ℕ) (turn : Turn C) (storage : S) → Site C S

-- the servers, and what was let out on each connection and has not arrived
pub record Ensemble (C S : Type 0) : Type 0 where
  pub site : ℕ → Site C S
  pub flight : ℕ → List (Message C)

pub data Event (C S : Type 0) : Type 0 where
  -- a server's turn returns
  Turns : (number : ℕ) (turn : Turn C) (next_used : ℕ) (next : HostView C S) → Event C S
  -- a server's turn returns `Stopped`, or its process ends in a turn or between two
  Stops : (number : ℕ) (turn : Turn C) (next_used : ℕ) (storage : S) → Event C S
  -- the machine of a stopped server crashes, or a start of it fails: what becomes of its store
  Waits : (number : ℕ) (storage : S) → Event C S
  -- a stopped server starts on its store
  Starts : (number : ℕ) (stable : Stable) (boot : ℕ) (next : HostView C S) → Event C S

-- ---- connections

abbrev pub arrived : {C : Type 0} → Turn C → (ℕ → List (Message C)) → ℕ → List (Message C)
arrived turn flight line = drop (length (turn.brought line)) (flight line)

-- each message goes on the connection to its addressee; one that is cut is never read again
abbrev pub posted : {C : Type 0} → Turn C → List (Message C) → (ℕ → List (Message C)) → ℕ → List (Message C)
posted turn sent flight line = flight line ++ filter (λ message. turn.line_to message.addressee == line) sent

-- ---- events

abbrev pub with_site : {C S : Type 0} → ℕ → Site C S → (ℕ → Site C S) → ℕ → Site C S
with_site number it site other = if other == number then it else site other

abbrev pub stopped_at : {C S : Type 0} → Turn C → S → Site C S → Site C S
stopped_at turn storage (Runs host boot used) = Stopped host.state boot used turn storage
stopped_at turn storage (Stopped last boot used before gone) = Stopped last boot used before storage

abbrev pub waiting_at : {C S : Type 0} → S → Site C S → Site C S
waiting_at storage (Runs host boot used) = Runs host boot used
waiting_at storage (Stopped last boot used turn gone) = Stopped last boot used turn storage

abbrev pub running_at : {C S : Type 0} → ℕ → HostView C S → Site C S → Site C S
running_at next_used next (Runs host boot used) = Runs next boot next_used
running_at next_used next (Stopped last boot used turn storage) = Stopped last boot used turn storage

abbrev pub sent_by : {C S : Type 0} → Profile C → Turn C → Site C S → List (Message C)
sent_by profile turn (Runs host boot used) = messages_in profile.setting host.state turn.inputs
sent_by profile turn (Stopped last boot used before storage) = []

abbrev pub after_event : {C S : Type 0} → Profile C → Ensemble C S → Event C S → Ensemble C S
after_event profile x (Turns number turn next_used next) = record {
  site = with_site number (running_at next_used next (x.site number)) x.site;
  flight = posted turn (sent_by profile turn (x.site number)) (arrived turn x.flight);
}
after_event profile x (Stops number turn next_used storage) =
    record { site = with_site number (stopped_at turn storage (x.site number)) x.site; flight = arrived turn x.flight }
after_event profile x (Waits number storage) =
    record { site = with_site number (waiting_at storage (x.site number)) x.site; flight = x.flight }
after_event profile x (Starts number stable boot next) = record { site = with_site number (Runs next boot 0) x.site; flight = x.flight }

abbrev pub after_events : {C S : Type 0} → Profile C → Ensemble C S → List (Event C S) → Ensemble C S
after_events profile x [] = x
after_events profile x (event ∷ events) = after_events profile (after_event profile x event) events

-- ---- which events may happen

module _ {C S : Type 0} (profile : Profile C) (may_recover : S → Stable → Type 0) (boots : S → ℕ) (servers : ℕ) where
  -- what arrives on a connection is the first part of what was let out on it
  abbrev pub Brings : Ensemble C S → Turn C → Type 0
  Brings x turn = (line : ℕ) → IsPrefix (turn.brought line) (x.flight line)

  abbrev pub MayTurn : Site C S → ℕ → Turn C → ℕ → HostView C S → Type 0
  MayTurn (Runs host boot used) number turn next_used next =
      TurnsTo profile may_recover boots servers number boot used next_used host turn (messages_in profile.setting host.state turn.inputs) next
  MayTurn (Stopped last boot used before storage) number turn next_used next = ⊥

  abbrev pub MayStop : Site C S → ℕ → Turn C → ℕ → S → Type 0
  MayStop (Runs host boot used) number turn next_used storage = StopsWith profile may_recover boots servers number boot used next_used host turn storage
  MayStop (Stopped last boot used before gone) number turn next_used storage = ⊥

  abbrev pub MayNarrow : Site C S → S → Type 0
  MayNarrow (Runs host boot used) storage = ⊥
  MayNarrow (Stopped last boot used before gone) storage = Narrows may_recover boots gone storage

  abbrev pub MayStart : Site C S → ℕ → Stable → ℕ → HostView C S → Type 0
  MayStart (Runs host boot used) number stable next_boot next = ⊥
  MayStart (Stopped last boot used before storage) number stable next_boot next = StartsOn may_recover boots servers number storage stable next_boot next

  abbrev pub MayHappen : Ensemble C S → Event C S → Type 0
  MayHappen x (Turns number turn next_used next) =
      (is_server servers number ≡ true) × (Brings x turn × MayTurn (x.site number) number turn next_used next)
  MayHappen x (Stops number turn next_used storage) =
      (is_server servers number ≡ true) × (Brings x turn × MayStop (x.site number) number turn next_used storage)
  MayHappen x (Waits number storage) = (is_server servers number ≡ true) × MayNarrow (x.site number) storage
  MayHappen x (Starts number stable boot next) = (is_server servers number ≡ true) × MayStart (x.site number) number stable boot next

  abbrev pub MayRun : Ensemble C S → List (Event C S) → Type 0
  MayRun x [] = Unit {0}
  MayRun x (event ∷ events) = MayHappen x event × MayRun (after_event profile x event) events

  -- ---- the first start

  abbrev pub no_turn : Turn C
  no_turn = record { brought = λ line. []; line_to = λ to. 0; inputs = []; requests = []; taken = [] }

  abbrev pub no_stable : Stable
  no_stable = record { promised = 0; current = 0; history = [] }

  -- no server has started, and each store recovers that nothing is stored
  abbrev pub IsNewSite : ℕ → Site C S → Type 0
  IsNewSite number (Runs host boot used) = ⊥
  IsNewSite number (Stopped last boot used turn storage) =
      (last ≡ restored servers number no_stable)
      × ((boot ≡ 0) × ((used ≡ 0) × ((turn ≡ no_turn) × ((found : Stable) → may_recover storage found → found ≡ no_stable))))

  pub record IsNew (x : Ensemble C S) : Type 0 where
    pub few : servers < 256
    pub sites : (number : ℕ) → IsNewSite number (x.site number)
    pub flight : (line : ℕ) → x.flight line ≡ []

  -- ---- the laws

  -- a running server is the network's server, but for the completed syncs that were taken
  abbrev pub ShowsSite : List (Step C) → ℕ → Site C S → Type 0
  ShowsSite steps number (Stopped last boot used turn storage) = Unit {0}
  ShowsSite steps number (Runs host boot used) =
      (whole : State) × ((taken : List Caught) × ((server_at (after_steps profile (new_network servers) steps).servers number ≡ Some (standing true whole)) × HasTaken taken whole host.state))

  abbrev pub Shows : List (Step C) → Ensemble C S → Type 0
  Shows steps x = (number : ℕ) → is_server servers number ≡ true → ShowsSite steps number (x.site number)

  -- the events before a moment, and then those up to another, are steps that hosts may make
  pub record AreSteps (x : Ensemble C S) (before between : List (Event C S)) : Type 0 where
    pub first : List (Step C)
    pub later : List (Step C)
    pub may : MayStepAll profile (new_network servers) [] [] (first ++ later)
    pub shows : Shows first (after_events profile x before)
    pub shows_then : Shows (first ++ later) (after_events profile x (before ++ between))

  abbrev pub SchedulesAreSteps : Type 0
  SchedulesAreSteps = (x : Ensemble C S) (before between : List (Event C S)) → servers ≢ 1 → IsNew x → MayRun x (before ++ between) → AreSteps x before between

  abbrev pub delivered_in : State → List Entry
  delivered_in state = take state.delivered state.peer.stable.history

  abbrev pub SitesAgree : Site C S → Site C S → Type 0
  SitesAgree (Stopped last boot used turn storage) other = Unit {0}
  SitesAgree (Runs host boot used) (Stopped last boot2 used2 turn storage) = Unit {0}
  SitesAgree (Runs one boot used) (Runs other boot2 used2) =
      IsPrefix (delivered_in one.state) (delivered_in other.state) ⊎ IsPrefix (delivered_in other.state) (delivered_in one.state)

  -- Of what two running servers have delivered, each after any events, one is a prefix of the other.
  abbrev pub ServersAgree : Type 0
  ServersAgree =
      (x : Ensemble C S) (before between : List (Event C S)) → IsNew x → MayRun x (before ++ between) → (p q : ℕ)
      → is_server servers p ≡ true → is_server servers q ≡ true
      → SitesAgree ((after_events profile x before).site p) ((after_events profile x (before ++ between)).site q)
