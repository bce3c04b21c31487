-- What was sent stays sent.
use Rattle.std.proofs.Common.{◌≡◌, ℕ, zero, suc, ◌-◌, ◌==◌, ◌&&◌, not, Bool, true, false, if◌then◌else◌, List, [], ◌∷◌, ◌++◌, length, map, slice_get, Some, None, Result, Ok, Err, subst}
use Rattle.zab_laws.specs.Prefixes.{IsPrefix}
use Rattle.zab_laws.proofs.PrefixLaws.{prefix_refl, prefix_trans, prefix_append}
use Rattle.zab_epoch.specs.declared.message.Message.{Message}
use Rattle.zab_broadcast.specs.declared.state.State.{State}
use Rattle.zab_broadcast.specs.Rules as rules
use Rattle.zab_broadcast.specs.Rules.{Acts, is_serving}
use Rattle.zab_model.specs.declared.event.Event.TheVariants.{Crash, Restart}
use Rattle.zab_model.specs.declared.fault.WorldFault.{WorldFault}
use Rattle.zab_model.specs.declared.fault.WorldFault.TheVariants as faults
use Rattle.zab_model.specs.ProcessStates.{ProcessState, standing}
use Rattle.zab_model.specs.Worlds.{World, Profile, is_server, running, resting, told, said, with_server, acts, receives, message_at, crashes, restarts, happens}
use Rattle.zab_host_laws.specs.Hosts as steps
use Rattle.zab_host_laws.specs.Hosts.{Network, Step, new_network, submits_at, syncs_at, after_step, after_steps, MayStepAll, MayStep, calls_after, syncs_after}
use Rattle.zab_host.specs.Hosts.{Input, Receives, Submits, Syncs, Leads, Follows}
use Rattle.zab_host_laws.specs.Composition.{step_of}
use Rattle.zab_host_laws.specs.Releases.{Release, restart_of, steps_in, WasSent, WereSent, ReceiveWhatWasSent, IsFreshTag, AreFreshTags, ReleasesAreSteps}

abbrev Keeps : {C : Type 0} → World C → World C → Type 0
Keeps w next = IsPrefix w.messages next.messages

module _ {C : Type 0} where
  told_keeps : (w : World C) (r : Result (List (Message C)) WorldFault) → Keeps w (told w r).0
  told_keeps w (Ok messages) = prefix_append w.messages messages
  told_keeps w (Err fault) = prefix_refl w.messages

  acts_keeps : (w : World C) (number : ℕ) (rule : State → Acts C) (it : Result ProcessState WorldFault) → Keeps w (acts w number rule it).0
  acts_keeps w number rule (Ok it) = told_keeps (with_server w number (standing it.up (rule it.state).0)) (said (rule it.state).1)
  acts_keeps w number rule (Err fault) = prefix_refl w.messages

  crashes_keeps : (w : World C) (number : ℕ) (it : Result ProcessState WorldFault) → Keeps w (crashes w number it).0
  crashes_keeps w number (Ok it) = prefix_append w.messages []
  crashes_keeps w number (Err fault) = prefix_refl w.messages

  restarts_keeps : (w : World C) (number : ℕ) (it : Result ProcessState WorldFault) → Keeps w (restarts w number it).0
  restarts_keeps w number (Ok it) = prefix_append w.messages []
  restarts_keeps w number (Err fault) = prefix_refl w.messages

  by_if : (w : World C) (b : Bool) (x : World C) → Keeps w x → Keeps w (if b then x else w)
  by_if w true x k = k
  by_if w false x k = prefix_refl w.messages

module _ {C : Type 0} (profile : Profile C) (c : Network C) where
  asks_keeps : (number : ℕ) (call : C) (it : Result ProcessState WorldFault) → Keeps c (submits_at profile c number call it)
  asks_keeps number call (Ok it) = by_if c (is_serving it.state.peer.role) _ (acts_keeps c number (λ state. rules.submit profile.setting state call) (Ok it))
  asks_keeps number call (Err fault) = prefix_refl c.messages

  syncs_keeps : (number tag : ℕ) (it : Result ProcessState WorldFault) → Keeps c (syncs_at c number tag it)
  syncs_keeps number tag (Ok it) = by_if c (is_serving it.state.peer.role) _ (acts_keeps c number (λ state. rules.sync state tag) (Ok it))
  syncs_keeps number tag (Err fault) = prefix_refl c.messages

  joins_keeps : (number leader : ℕ) (may : Bool) → Keeps c (if may then acts c number (λ state. rules.follow state leader) (running c.servers number) else (c, Err faults.NoServer)).0
  joins_keeps number leader true = acts_keeps c number (λ state. rules.follow state leader) (running c.servers number)
  joins_keeps number leader false = prefix_refl c.messages

  stepped_keeps : (step : Step C) → Keeps c (after_step profile c step)
  stepped_keeps (steps.Receives message) = acts_keeps c message.addressee (receives profile.setting message.sender message.body) (running c.servers message.addressee)
  stepped_keeps (steps.Submits number call) = asks_keeps number call (running c.servers number)
  stepped_keeps (steps.Syncs number tag) = syncs_keeps number tag (running c.servers number)
  stepped_keeps (steps.Leads number) = acts_keeps c number rules.lead (running c.servers number)
  stepped_keeps (steps.Follows number leader) = joins_keeps number leader (is_server (length c.servers) leader && not (number == leader))
  stepped_keeps (steps.Restarts number) =
      let one = (happens profile c (Restart number)).0 in
      let two = (happens profile one (Crash number)).0 in
      prefix_trans c.messages one.messages _ (restarts_keeps c number (resting c.servers number))
      (prefix_trans one.messages two.messages _ (crashes_keeps one number (running one.servers number)) (restarts_keeps two number (resting two.servers number)))

-- ---- a message that was sent

get_stays : {X : Type 0} (a rest : List X) (i : ℕ) (x : X) → slice_get a i ≡ Some x → slice_get (a ++ rest) i ≡ Some x
get_stays [] rest i x is = absurd cc
get_stays (y ∷ a) rest zero x is = is
get_stays (y ∷ a) rest (suc i) x is = get_stays a rest i x is

stays_by : {C : Type 0} (a rest : List (Message C)) (i : ℕ) (m : Message C) (b : Bool) → (if b then None else slice_get a i) ≡ Some m → (if b then None else slice_get (a ++ rest) i) ≡ Some m
stays_by a rest i m true is = absurd cc
stays_by a rest i m false is = get_stays a rest i m is

stays : {C : Type 0} (a b : List (Message C)) (number : ℕ) (m : Message C) → IsPrefix a b → message_at a number ≡ Some m → message_at b number ≡ Some m
stays a b number m p is = subst (λ (l : List (Message _)). message_at l number ≡ Some m) p.is (stays_by a p.rest (number - 1) m (number == 0) is)

-- ---- releases

module _ {C : Type 0} (profile : Profile C) where
  may_one : (before c : Network C) (calls syncs : List ℕ) (n : ℕ) (input : Input C) → WasSent before input → Keeps before c → IsFreshTag profile calls syncs (step_of n input)
      → MayStep profile c calls syncs (step_of n input)
  may_one before c calls syncs n (Receives message) sent keeps new = (sent.0, stays before.messages c.messages sent.0 message keeps sent.1)
  may_one before c calls syncs n (Submits call) sent keeps new = new
  may_one before c calls syncs n (Syncs tag) sent keeps new = new
  may_one before c calls syncs n Leads sent keeps new = tt
  may_one before c calls syncs n (Follows leader) sent keeps new = tt

  batch : (before c : Network C) (calls syncs : List ℕ) (n : ℕ) (inputs : List (Input C)) (rest : List (Step C)) → WereSent before inputs → Keeps before c
      → AreFreshTags profile calls syncs (map (step_of n) inputs ++ rest)
      → ((calls syncs : List ℕ) → AreFreshTags profile calls syncs rest → MayStepAll profile (after_steps profile c (map (step_of n) inputs)) calls syncs rest)
      → MayStepAll profile c calls syncs (map (step_of n) inputs ++ rest)
  batch before c calls syncs n [] rest sent keeps new go = go calls syncs new
  batch before c calls syncs n (input ∷ inputs) rest sent keeps new go =
      let step = step_of n input in (
        may_one before c calls syncs n input sent.0 keeps new.0,
        batch before (after_step profile c step) (calls_after profile calls step) (syncs_after syncs step) n inputs rest sent.1
            (prefix_trans before.messages c.messages (after_step profile c step).messages keeps (stepped_keeps profile c step)) new.1 go,
      )

  start : (c : Network C) (calls syncs : List ℕ) (n : ℕ) (starts : Bool) (rest : List (Step C)) → AreFreshTags profile calls syncs (restart_of n starts ++ rest)
      → ((calls syncs : List ℕ) → AreFreshTags profile calls syncs rest → MayStepAll profile (after_steps profile c (restart_of n starts)) calls syncs rest)
      → MayStepAll profile c calls syncs (restart_of n starts ++ rest)
  start c calls syncs n true rest new go = (tt, go calls syncs new.1)
  start c calls syncs n false rest new go = go calls syncs new

  all_out : (c : Network C) (calls syncs : List ℕ) (outs : List (Release C)) → ReceiveWhatWasSent profile c outs → AreFreshTags profile calls syncs (steps_in outs) → MayStepAll profile c calls syncs (steps_in outs)
  all_out c calls syncs [] heard new = tt
  all_out c calls syncs (it ∷ outs) heard new =
      let after = after_steps profile c (map (step_of it.number) it.inputs) in
      batch c c calls syncs it.number it.inputs (restart_of it.number it.crashes ++ steps_in outs) heard.0 (prefix_refl c.messages) new
      (λ calls1 syncs1 new1. start after calls1 syncs1 it.number it.crashes (steps_in outs) new1
      (λ calls2 syncs2 new2. all_out (after_steps profile after (restart_of it.number it.crashes)) calls2 syncs2 outs heard.1 new2))

pub releases_are : {C : Type 0} (profile : Profile C) → ReleasesAreSteps profile
releases_are profile servers outs heard new = all_out profile (new_network servers) [] [] outs heard new
