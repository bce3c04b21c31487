-- Runs: the ensembles after lists of events.
use Rattle.std.specs.Prelude.{ℕ, List, [], ◌∷◌, length, take, Option}
use Rattle.zab_epoch.specs.declared.history.Entry.{Entry}
use Rattle.zab_model.specs.declared.event.Event.{Event as WorldEvent}
use Rattle.zab_model.specs.Runs.{delivered_of, history_of}
use Rattle.zab_model.specs.Worlds.{Profile}
use Rattle.zk_requests.specs.declared.call.Call.{Call}
use Rattle.zk_model.specs.declared.answer.Answered.{Answered}
use Rattle.zk_model.specs.declared.event.Event.{Event}
use Rattle.zk_model.specs.declared.event.Event.TheVariants as events
use Rattle.zk_model.specs.Ensembles.{Ensemble, ReplicaView, Told, new_ensemble, happens, replica_at, answered}
use Rattle.zk_table.specs.States.{State, start_state}
use Rattle.zk_table.specs.Steps.{step}

-- the ensemble after events, and the answer to each
abbrev pub after : Profile Call → Ensemble → List Event → Ensemble
after profile x [] = x
after profile x (event ∷ events) = after profile (happens profile x event).0 events

abbrev pub answers : Profile Call → Ensemble → List Event → List Told
answers profile x [] = []
answers profile x (event ∷ events) = (happens profile x event).1 ∷ answers profile (happens profile x event).0 events

-- a new ensemble of `n` servers after events, with the answer to each
abbrev pub run : Profile Call → ℕ → List Event → Ensemble × List Told
run profile servers events = (after profile (new_ensemble servers) events, answers profile (new_ensemble servers) events)

-- ---- after the first `n` events

abbrev pub ensemble_after : Profile Call → ℕ → List Event → ℕ → Ensemble
ensemble_after profile servers events count = (run profile servers (take count events)).0

abbrev pub replica_after : Profile Call → ℕ → List Event → ℕ → ℕ → Option ReplicaView
replica_after profile servers events count number = replica_at (ensemble_after profile servers events count).shown number

abbrev pub delivered_after : Profile Call → ℕ → List Event → ℕ → ℕ → List Entry
delivered_after profile servers events count number = delivered_of (ensemble_after profile servers events count).world number

abbrev pub history_after : Profile Call → ℕ → List Event → ℕ → ℕ → List Entry
history_after profile servers events count number = history_of (ensemble_after profile servers events count).world number

-- ---- the events of the world under it

abbrev pub in_world : List Event → List (WorldEvent Call)
in_world [] = []
in_world (events.World event ∷ events) = event ∷ in_world events
in_world (events.Read question ∷ events) = in_world events

-- how many of the first `n` events are the world's
abbrev pub world_count : ℕ → List Event → ℕ
world_count count events = length (in_world (take count events))

-- ---- the table's result for each entry of a delivered list

abbrev pub answered_after : State → List Entry → List Answered
answered_after state [] = []
answered_after state (entry ∷ entries) = answered entry (step state entry.txn).1 ∷ answered_after (step state entry.txn).0 entries

abbrev pub answered_of : List Entry → List Answered
answered_of entries = answered_after start_state entries
