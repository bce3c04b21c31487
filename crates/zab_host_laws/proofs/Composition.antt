-- An input is a step.
use Rattle.std.proofs.Common.{◌≡◌, ℕ, zero, suc, ◌-◌, ◌==◌, ◌&&◌, not, Bool, true, false, if◌then◌else◌, List, [], ◌∷◌, ◌++◌, length, map, set, slice_get, Some, Result, Ok, Err, refl, sym, ap, ◌∙◌, subst}
use Rattle.std.proofs.lemmas.List.{append-nil, append_assoc, length-set}
use Rattle.zab_epoch.specs.declared.rule_fault.RuleFault.{RuleFault}
use Rattle.zab_epoch.specs.declared.rule_fault.RuleFault.TheVariants as rule_faults
use Rattle.zab_epoch.specs.declared.message.Message.{Message}
use Rattle.zab_epoch.specs.declared.role.Role.{Role}
use Rattle.zab_epoch.specs.declared.role.Role.TheVariants as roles
use Rattle.zab_broadcast.specs.declared.state.State.{State}
use Rattle.zab_broadcast.specs.Calls.{Setting}
use Rattle.zab_broadcast.specs.Rules as rules
use Rattle.zab_broadcast.specs.Rules.{Acts, is_serving, submit_as, sync_as}
use Rattle.zab_model.specs.declared.fault.WorldFault.{WorldFault}
use Rattle.zab_model.specs.declared.fault.WorldFault.TheVariants as faults
use Rattle.zab_model.specs.ProcessStates.{ProcessState, standing}
use Rattle.zab_model.specs.Worlds.{World, Profile, world, is_server, server_at, running, if_up, if_down, crashed, crashes, restarts, happens, told, said, with_server, acts, receives}
use Rattle.zab_model.proofs.ServerLists.{found, same_place, other_same}
use Rattle.zab_model.specs.declared.event.Event.TheVariants.{Crash, Restart}
use Rattle.zab_host_laws.specs.Hosts as steps
use Rattle.zab_host_laws.specs.Hosts.{Network, submits_at, syncs_at, after_step, after_steps}
use Rattle.zab_host.specs.Hosts.{Input, Receives, Submits, Syncs, Leads, Follows, acts_of, messages_of}
use Rattle.zab_host_laws.specs.Composition.{step_of, Fits, AllFit, messages_in, AreSteps, InputsAreSteps, RestartsFrom}

abbrev moved : {C : Type 0} → Network C → ℕ → Acts C → Network C
moved c number acts = world (set c.servers (number - 1) (standing true acts.0)) (c.messages ++ messages_of acts.1) c.tags

told_as : {C : Type 0} (w : World C) (r : Result (List (Message C)) RuleFault) → (told w (said r)).0 ≡ world w.servers (w.messages ++ messages_of r) w.tags
told_as w (Ok messages) = refl
told_as w (Err fault) = ap (λ l. world w.servers l w.tags) (sym (append-nil w.messages))

acts_as : {C : Type 0} (c : Network C) (number : ℕ) (rule : State → Acts C) (it : ProcessState) → it.up ≡ true → (acts c number rule (Ok it)).0 ≡ moved c number (rule it.state)
acts_as c number rule it up =
    told_as (with_server c number (standing it.up (rule it.state).0)) (rule it.state).1
    ∙ ap (λ b. world (set c.servers (number - 1) (standing b (rule it.state).0)) (c.messages ++ messages_of (rule it.state).1) c.tags) up

set_same : {X : Type 0} (xs : List X) (i : ℕ) (x : X) → slice_get xs i ≡ Some x → set xs i x ≡ xs
set_same [] i x is = refl
set_same (y ∷ xs) zero x is = let e : Some y ≡ Some x = is in let f : x ≡ y = cc in ap (λ z. z ∷ xs) f
set_same (y ∷ xs) (suc i) x is = ap (λ l. y ∷ l) (set_same xs i x is)

-- if nothing is done
stays : {C : Type 0} (c : Network C) (number : ℕ) (it : ProcessState) (fault : RuleFault) → server_at c.servers number ≡ Some it → it.up ≡ true → moved c number (it.state, Err fault) ≡ c
stays c number it fault is up =
    ap (λ b. world (set c.servers (number - 1) (standing b it.state)) (c.messages ++ []) c.tags) (sym up)
    ∙ ap (λ l. world l (c.messages ++ []) c.tags) (set_same c.servers (number - 1) it (found c.servers number it is).get)
    ∙ ap (λ l. world c.servers l c.tags) (append-nil c.messages)

submit_refused : {C : Type 0} (setting : Setting C) (state : State) (call : C) (role : Role) → is_serving role ≡ false → submit_as setting state call role ≡ (state, Err rule_faults.NotServing)
submit_refused setting state call roles.Looking refused = refl
submit_refused setting state call (roles.Discover heard) refused = refl
submit_refused setting state call (roles.Choose votes joiners) refused = refl
submit_refused setting state call roles.Sync refused = refl
submit_refused setting state call roles.Broadcast refused = absurd cc
submit_refused setting state call (roles.Following leader true) refused = absurd cc
submit_refused setting state call (roles.Following leader false) refused = refl

sync_refused : {C : Type 0} (state : State) (tag : ℕ) (role : Role) → is_serving role ≡ false → sync_as {C = C} state tag role ≡ (state, Err rule_faults.NotServing)
sync_refused state tag roles.Looking refused = refl
sync_refused state tag (roles.Discover heard) refused = refl
sync_refused state tag (roles.Choose votes joiners) refused = refl
sync_refused state tag roles.Sync refused = refl
sync_refused state tag roles.Broadcast refused = absurd cc
sync_refused state tag (roles.Following leader true) refused = absurd cc
sync_refused state tag (roles.Following leader false) refused = refl

module _ {C : Type 0} (profile : Profile C) (c : Network C) (number : ℕ) (it : ProcessState) (is : server_at c.servers number ≡ Some it) (up : it.up ≡ true) where
  runs : running c.servers number ≡ Ok it
  runs = ap if_up is ∙ ap (λ b. if b then Ok it else Err faults.Down) up

  acts_at : (rule : State → Acts C) → (acts c number rule (running c.servers number)).0 ≡ moved c number (rule it.state)
  acts_at rule = ap (λ (r : Result ProcessState WorldFault). (acts c number rule r).0) runs ∙ acts_as c number rule it up

  asks_by : (call : C) (serves : Bool) → is_serving it.state.peer.role ≡ serves
      → (if serves then (acts c number (λ state. rules.submit profile.setting state call) (Ok it)).0 else c) ≡ moved c number (rules.submit profile.setting it.state call)
  asks_by call true is_it = acts_as c number (λ state. rules.submit profile.setting state call) it up
  asks_by call false is_it =
      sym (stays c number it rule_faults.NotServing is up)
      ∙ ap (moved c number) (sym (submit_refused profile.setting it.state call it.state.peer.role is_it))

  syncs_by : (tag : ℕ) (serves : Bool) → is_serving it.state.peer.role ≡ serves
      → (if serves then (acts c number (λ state. rules.sync state tag) (Ok it)).0 else c) ≡ moved c number (rules.sync it.state tag)
  syncs_by tag true is_it = acts_as c number (λ state. rules.sync state tag) it up
  syncs_by tag false is_it =
      sym (stays c number it rule_faults.NotServing is up)
      ∙ ap (moved c number) (sym (sync_refused it.state tag it.state.peer.role is_it))

  joins_by : (leader : ℕ) (may : Bool) → may ≡ true
      → (if may then acts c number (λ state. rules.follow state leader) (running c.servers number) else (c, Err faults.NoServer)).0 ≡ moved c number (rules.follow it.state leader)
  joins_by leader true can = acts_at (λ state. rules.follow state leader)
  joins_by leader false can = absurd cc

  one : (input : Input C) → Fits (length c.servers) number input → after_step profile c (step_of number input) ≡ moved c number (acts_of profile.setting it.state input)
  one (Receives message) fits =
      ap (λ n. (acts c n (receives profile.setting message.sender message.body) (running c.servers n)).0) fits ∙ acts_at (receives profile.setting message.sender message.body)
  one (Submits call) fits = ap (submits_at profile c number call) runs ∙ asks_by call (is_serving it.state.peer.role) refl
  one (Syncs tag) fits = ap (syncs_at c number tag) runs ∙ syncs_by tag (is_serving it.state.peer.role) refl
  one Leads fits = acts_at rules.lead
  one (Follows leader) fits = joins_by leader (is_server (length c.servers) leader && not (number == leader)) fits

fit_all : {C : Type 0} (a b number : ℕ) (inputs : List (Input C)) → a ≡ b → AllFit b number inputs → AllFit a number inputs
fit_all a b number inputs same fits = subst (λ n. AllFit n number inputs) (sym same) fits

pub all_are : {C : Type 0} (profile : Profile C) (c : Network C) (number : ℕ) (it : ProcessState) (inputs : List (Input C)) → server_at c.servers number ≡ Some it → it.up ≡ true → AllFit (length c.servers) number inputs → AreSteps profile c number it inputs
all_are profile c number it [] is up fits = record {
  state = is ∙ ap (λ b. Some (standing b it.state)) up;
  messages = sym (append-nil c.messages);
  others = λ other differs. refl;
}
all_are profile c number it (input ∷ inputs) is up fits =
    let acts = acts_of profile.setting it.state input in
    let next = moved c number acts in
    let step : after_step profile c (step_of number input) ≡ next = one profile c number it is up input fits.0 in
    let stands = standing true acts.0 in
    let rest = all_are profile next number stands inputs (same_place c.servers number it stands (found c.servers number it is)) refl
    (fit_all (length next.servers) (length c.servers) number inputs (length-set c.servers (number - 1) stands) fits.1) in
    let on : after_steps profile c (map (step_of number) (input ∷ inputs)) ≡ after_steps profile next (map (step_of number) inputs) =
    ap (λ x. after_steps profile x (map (step_of number) inputs)) step in
    record {
      state = ap (λ (x : Network _). server_at x.servers number) on ∙ rest.state;
      messages = ap (λ (x : Network _). x.messages) on ∙ rest.messages
          ∙ append_assoc c.messages (messages_of acts.1) (messages_in profile.setting acts.0 inputs);
      others = λ other differs. ap (λ (x : Network _). server_at x.servers other) on ∙ rest.others other differs
          ∙ other_same c.servers number other stands (found c.servers number it is).above differs;
    }

pub inputs_are : {C : Type 0} (profile : Profile C) → InputsAreSteps profile
inputs_are profile c number it inputs is up fits = all_are profile c number it inputs is up fits

-- ---- starts

module _ {C : Type 0} (profile : Profile C) (c : Network C) (number : ℕ) (it : ProcessState) (is : server_at c.servers number ≡ Some it) (up : it.up ≡ true) where
  abbrev fell : Network C
  fell = world (set c.servers (number - 1) (standing false (crashed it.state))) (c.messages ++ []) c.tags

  abbrev rose : Network C
  rose = world (set fell.servers (number - 1) (standing true (crashed it.state))) (fell.messages ++ []) c.tags

  not_down : (happens profile c (Restart number)).0 ≡ c
  not_down =
      ap (λ (r : Result ProcessState WorldFault). (restarts c number r).0) (ap if_down is ∙ ap (λ b. if b then Err faults.NotDown else Ok it) up)

  falls : (happens profile c (Crash number)).0 ≡ fell
  falls = ap (λ (r : Result ProcessState WorldFault). (crashes c number r).0) (ap if_up is ∙ ap (λ b. if b then Ok it else Err faults.Down) up)

  lies : server_at fell.servers number ≡ Some (standing false (crashed it.state))
  lies = same_place c.servers number it (standing false (crashed it.state)) (found c.servers number it is)

  rises : (happens profile fell (Restart number)).0 ≡ rose
  rises = ap (λ (r : Result ProcessState WorldFault). (restarts fell number r).0) (ap if_down lies)

  starts : after_step profile c (steps.Restarts number) ≡ rose
  starts = ap (λ (x : Network C). (happens profile (happens profile x (Crash number)).0 (Restart number)).0) not_down ∙ ap (λ (x : Network C). (happens profile x (Restart number)).0) falls ∙ rises

  pub restarts_from : RestartsFrom profile c number it
  restarts_from = record {
    state = ap (λ (x : Network C). server_at x.servers number) starts
        ∙ same_place fell.servers number (standing false (crashed it.state)) (standing true (crashed it.state)) (found fell.servers number (standing false (crashed it.state)) lies);
    messages = ap (λ (x : Network C). x.messages) starts ∙ append-nil (c.messages ++ []) ∙ append-nil c.messages;
    others = λ other differs. ap (λ (x : Network C). server_at x.servers other) starts
        ∙ other_same fell.servers number other (standing true (crashed it.state)) (found c.servers number it is).above differs
        ∙ other_same c.servers number other (standing false (crashed it.state)) (found c.servers number it is).above differs;
  }
