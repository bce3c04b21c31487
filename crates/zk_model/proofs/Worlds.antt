-- The world under an ensemble is that of the events that are the world's.
use Rattle.std.proofs.Common.{◌≡◌, ℕ, zero, suc, Bool, true, false, cond, List, [], ◌∷◌, ◌++◌, take, Option, Some, None, Result, Ok, Err, refl, sym, ap, ◌∙◌, slice_get}
use Rattle.zab_model.specs.declared.fault.WorldFault.{WorldFault}
use Rattle.zab_model.specs.Runs as zab
use Rattle.zab_model.specs.ProcessStates.{ProcessState}
use Rattle.zab_model.specs.Worlds.{World, Profile, new_world, running}
use Rattle.zk_requests.specs.declared.call.Call.{Call}
use Rattle.zk_model.specs.declared.event.Event.{Event}
use Rattle.zk_model.specs.declared.event.Event.TheVariants as events
use Rattle.zk_model.specs.declared.event.Question.{Question}
use Rattle.zk_model.specs.Ensembles.{Ensemble, ReplicaView, Told, new_ensemble, happens, looks, reads, replica_at}
use Rattle.zk_model.specs.Runs.{after, answers, in_world, world_count, ensemble_after, delivered_after, history_after}

-- ---- a read leaves the world

by_test : (b : Bool) (x y : Ensemble × Told) (w : World Call) → x.0.world ≡ w → y.0.world ≡ w → (cond b x y).0.world ≡ w
by_test true x y w p q = p
by_test false x y w p q = q

looks_keep : (x : Ensemble) (question : Question) (o : Option ReplicaView) → (looks x question o).0.world ≡ x.world
looks_keep x question None = refl
looks_keep x question (Some it) = by_test _ _ _ x.world refl refl

reads_keep : (x : Ensemble) (question : Question) (r : Result ProcessState WorldFault) → (reads x question r).0.world ≡ x.world
reads_keep x question (Ok it) = looks_keep x question (replica_at x.shown question.server)
reads_keep x question (Err fault) = refl

pub read_keeps : (profile : Profile Call) (x : Ensemble) (question : Question) → (happens profile x (events.Read question)).0.world ≡ x.world
read_keeps profile x question = reads_keep x question (running x.world.servers question.server)

-- ---- the world after events

pub worlds_after : (profile : Profile Call) (x : Ensemble) (some : List Event) → (after profile x some).world ≡ zab.after profile x.world (in_world some)
worlds_after profile x [] = refl
worlds_after profile x (events.World event ∷ some) = worlds_after profile (happens profile x (events.World event)).0 some
worlds_after profile x (events.Read question ∷ some) =
    worlds_after profile (happens profile x (events.Read question)).0 some
    ∙ ap (λ w. zab.after profile w (in_world some)) (read_keeps profile x question)

-- ---- the first `n` events

pub take_in_world : (count : ℕ) (some : List Event) → in_world (take count some) ≡ take (world_count count some) (in_world some)
take_in_world zero some = refl
take_in_world (suc count) [] = refl
take_in_world (suc count) (events.World event ∷ some) = ap (λ l. event ∷ l) (take_in_world count some)
take_in_world (suc count) (events.Read question ∷ some) = take_in_world count some

pub world_then : (profile : Profile Call) (servers : ℕ) (some : List Event) (count : ℕ) → (ensemble_after profile servers some count).world ≡ (zab.run profile servers (take (world_count count some) (in_world some))).0
world_then profile servers some count =
    worlds_after profile (new_ensemble servers) (take count some)
    ∙ ap (λ l. zab.after profile (new_world servers) l) (take_in_world count some)

pub delivered_then : (profile : Profile Call) (servers : ℕ) (some : List Event) (count number : ℕ) → delivered_after profile servers some count number ≡ zab.delivered_after profile servers (in_world some) (world_count count some) number
delivered_then profile servers some count number = ap (λ w. zab.delivered_of w number) (world_then profile servers some count)

pub history_then : (profile : Profile Call) (servers : ℕ) (some : List Event) (count number : ℕ) → history_after profile servers some count number ≡ zab.history_after profile servers (in_world some) (world_count count some) number
history_then profile servers some count number = ap (λ w. zab.history_of w number) (world_then profile servers some count)

-- ---- one event more

pub after_more : (profile : Profile Call) (x : Ensemble) (some : List Event) (event : Event) → after profile x (some ++ event ∷ []) ≡ (happens profile (after profile x some) event).0
after_more profile x [] event = refl
after_more profile x (e ∷ some) event = after_more profile (happens profile x e).0 some event

-- and one after another
pub after_all : (profile : Profile Call) (x : Ensemble) (some more : List Event) → after profile x (some ++ more) ≡ after profile (after profile x some) more
after_all profile x [] more = refl
after_all profile x (e ∷ some) more = after_all profile (happens profile x e).0 some more

-- what comes after a run is more of it
pub goes_on : (profile : Profile Call) (start x y : Ensemble) (some more : List Event) → x ≡ after profile start some → y ≡ after profile x more → y ≡ after profile start (some ++ more)
goes_on profile start x y some more reached is =
    is ∙ ap (λ v. after profile v more) reached ∙ sym (after_all profile start some more)

-- the answer to the event at a position
pub answer_at : (profile : Profile Call) (x : Ensemble) (some : List Event) (place : ℕ) (event : Event) → slice_get some place ≡ Some event → slice_get (answers profile x some) place ≡ Some (happens profile (after profile x (take place some)) event).1
answer_at profile x [] place event is = absurd cc
answer_at profile x (e ∷ some) zero event is = ap (λ o. told_first o) is
  where
    told_first : Option Event → Option Told
    told_first None = None
    told_first (Some e) = Some (happens profile x e).1
answer_at profile x (e ∷ some) (suc place) event is = answer_at profile (happens profile x e).0 some place event is
