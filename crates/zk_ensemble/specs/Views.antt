-- How contracts see the code's ensembles.
use Rattle.std.specs.Prelude.{◌≡◌, ℕ, Bool, List, [], Option, Some, None, refl}
use Rattle.std.specs.Coded.{Coded, code_by, coded×, coded_list, coded_bool, coded_ℕ}
use Rattle.zab_epoch.specs.Quorums.{is_heavy}
use Rattle.zab_epoch.specs.declared.message.Message.{Message}
use Rattle.zab_broadcast.specs.declared.state.State.{State as ServerState}
use Rattle.zab_model.specs.declared.used_tags.UsedTags.{UsedTags}
use Rattle.zab_model.specs.Movers.{mover}
use Rattle.zab_model.specs.Runs.{Sight}
use Rattle.zab_model.specs.ProcessStates.{ProcessState}
use Rattle.zab_model.specs.Worlds.{World, Profile}
use Rattle.zk_requests.specs.declared.call.Call.{Call}
use Rattle.zk_model.specs.declared.answer.Answered.{Answered}
use Rattle.zk_model.specs.declared.event.Event.{Event}
use Rattle.zk_model.specs.declared.event.Event.TheVariants as events
use Rattle.zk_headline_laws.specs.Consequences.{FitEvents}
use Rattle.zk_model.specs.Ensembles.{ReplicaView, Ensemble, ensemble, profile_by}
use Rattle.zk_model.specs.Runs.{run}
use Rattle.zk_table.specs.States.{State, start_state}
use Rattle.zk_watch.specs.declared.watch.Fired.{Fired}

-- ---- an ensemble

-- the quorums of the world under it, the number of servers, and the world
pub record Below : Type 0 where
  pub quorums : List ℕ
  pub servers : ℕ
  pub world : World Call

abbrev pub below_by : Sight (List ℕ) Call → Below
below_by it = record { quorums = it.quorums; servers = it.servers; world = it.world }

-- the world under it, and what its servers show
pub record EnsembleView : Type 0 where
  pub below : Below
  pub shown : List ReplicaView

abbrev pub standing_code : Coded ServerState → Coded ProcessState
standing_code state = code_by (Bool × ServerState) (coded× coded_bool state) (λ s. (s.up, s.state)) (λ p. record { up = p.0; state = p.1 }) (λ _. refl)

abbrev pub spent_code : Coded UsedTags
spent_code =
    code_by (List ℕ × List ℕ) (coded× (coded_list coded_ℕ) (coded_list coded_ℕ)) (λ s. (s.calls, s.syncs)) (λ p. record { calls = p.0; syncs = p.1 }) (λ _. refl)

abbrev pub world_code : Coded ServerState → Coded (Message Call) → Coded (World Call)
world_code state message =
    code_by (List ProcessState × (List (Message Call) × UsedTags)) (coded× (coded_list (standing_code state)) (coded× (coded_list message) spent_code)) (λ w. (w.servers, (w.messages, w.tags))) (λ p. record { servers = p.0; messages = p.1.0; tags = p.1.1 }) (λ _. refl)

abbrev pub below_code : Coded (World Call) → Coded Below
below_code world =
    code_by (List ℕ × (ℕ × World Call)) (coded× (coded_list coded_ℕ) (coded× coded_ℕ world)) (λ s. (s.quorums, (s.servers, s.world))) (λ p. record { quorums = p.0; servers = p.1.0; world = p.1.1 }) (λ _. refl)

abbrev pub ensemble_code : Coded Below → Coded ReplicaView → Coded EnsembleView
ensemble_code below shown =
    code_by (Below × List ReplicaView) (coded× below (coded_list shown)) (λ e. (e.below, e.shown)) (λ p. record { below = p.0; shown = p.1 }) (λ _. refl)

abbrev pub state_of : EnsembleView → Ensemble
state_of it = ensemble it.below.world it.shown

-- its quorums are the sets of servers with more than half of the weight
abbrev pub profile_in : Below → Profile Call
profile_in below = profile_by (is_heavy below.quorums)

-- it is that of a run, of events whose sessions are numbers of 64 bits
pub record IsOfRun (below : Below) (shown : List ReplicaView) : Type 0 where
  pub events : List Event
  pub fit : FitEvents events
  pub reached : ensemble below.world shown ≡ (run (profile_in below) below.servers events).0

-- the server that an event may change, or that it reads; 0 for the arrival of an unknown message
abbrev pub server_of : World Call → Event → ℕ
server_of w (events.World event) = mover w event
server_of w (events.Read question) = question.server

-- ---- what one of its servers shows; nothing for an unknown number

abbrev pub answers_in : Option ReplicaView → List Answered
answers_in None = []
answers_in (Some it) = it.answers

abbrev pub events_in : Option ReplicaView → List Fired
events_in None = []
events_in (Some it) = it.events

abbrev pub tree_in : Option ReplicaView → State
tree_in None = start_state
tree_in (Some it) = it.tree
