-- An event leaves the other servers as they are.
use Rattle.std.proofs.Common.{◌≡◌, ◌≢◌, ℕ, ◌-◌, ◌<◌, ◌==◌, ◌&&◌, not, Bool, true, false, if◌then◌else◌, List, [], ◌∷◌, ◌++◌, length, set, Option, Some, None, Result, Ok, Err, refl, sym, ap, ◌∙◌, subst, inl, inr}
use Rattle.std.proofs.lemmas.Bool.{cases_eq}
use Rattle.zab_epoch.specs.declared.message.Message.{Message}
use Rattle.zab_epoch.specs.declared.stable.Stable.{Stable}
use Rattle.zab_broadcast.specs.declared.state.State.{State}
use Rattle.zab_broadcast.specs.Calls.{Setting, is_taken}
use Rattle.zab_broadcast.specs.Rules as rules
use Rattle.zab_broadcast.specs.Rules.{Acts, is_serving}
use Rattle.zab_model.specs.declared.event.Event.TheVariants.{Lead, Follow, Arrive, Submit, Expire, Sync, Crash, Restart}
use Rattle.zab_model.specs.declared.fault.WorldFault.{WorldFault}
use Rattle.zab_model.specs.declared.fault.WorldFault.TheVariants as faults
use Rattle.zab_model.specs.Movers.{mover, addressee_of}
use Rattle.zab_model.specs.ProcessStates.{ProcessState, standing}
use Rattle.zab_model.specs.Worlds.{World, Profile, Answer, is_server, server_at, running, resting, told, said, with_server, acts, receives, message_at, arrives, spends, submits, spends_sync, syncs, crashed, crashes, restarts, new_world}
use Rattle.zab_model.specs.Runs.{kept, stable_of, run}
use Rattle.zab_model.proofs.ServerLists.{found, other_same, up_is, down_is}
use Rattle.zab_model.proofs.RunLaws.{after_more}
use Rattle.zab_host_laws.specs.Survival.{OnlyItsServerChanges, CrashesLeaveAPrefix}

-- any result leaves a world its servers
told_servers : {C : Type 0} (w : World C) (said : Result (List (Message C)) WorldFault) → (told w said).0.servers ≡ w.servers
told_servers w (Ok messages) = refl
told_servers w (Err fault) = refl

spends_servers : {C : Type 0} (tag : ℕ) (x : World C × Answer) → (spends tag x).0.servers ≡ x.0.servers
spends_servers tag (w, Ok numbers) = refl
spends_servers tag (w, Err fault) = refl

spends_sync_servers : {C : Type 0} (tag : ℕ) (x : World C × Answer) → (spends_sync tag x).0.servers ≡ x.0.servers
spends_sync_servers tag (w, Ok numbers) = refl
spends_sync_servers tag (w, Err fault) = refl

abbrev stored_in : List ProcessState → ℕ → Option Stable
stored_in servers number = kept (server_at servers number)

module _ {C : Type 0} (w : World C) (number other : ℕ) (differs : other ≢ number) where
  place_other : (stands : ProcessState) → 0 < number → stored_in (set w.servers (number - 1) stands) other ≡ stored_in w.servers other
  place_other stands above = ap kept (other_same w.servers number other stands above differs)

  acts_other : (rule : State → Acts C) (it : Result ProcessState WorldFault) → running w.servers number ≡ it → stored_in (acts w number rule it).0.servers other ≡ stored_in w.servers other
  acts_other rule (Ok it) is =
      ap (λ (s : List ProcessState). stored_in s other) (told_servers (with_server w number (standing it.up (rule it.state).0)) (said (rule it.state).1))
      ∙ place_other (standing it.up (rule it.state).0) (found w.servers number it (up_is (server_at w.servers number) it is)).above
  acts_other rule (Err fault) is = refl

  submits_by : (setting : Setting C) (call : C) (it : ProcessState) (serves taken : Bool) → running w.servers number ≡ Ok it
      → stored_in (if serves then (if taken then (w, Err faults.DuplicateCall) else spends (setting.tag call) (acts w number (λ state. rules.submit setting state call) (Ok it))) else (w, Err faults.NotServing)).0.servers other ≡ stored_in w.servers other
  submits_by setting call it false taken is = refl
  submits_by setting call it true true is = refl
  submits_by setting call it true false is =
      ap (λ (s : List ProcessState). stored_in s other) (spends_servers (setting.tag call) (acts w number (λ state. rules.submit setting state call) (Ok it)))
      ∙ acts_other (λ state. rules.submit setting state call) (Ok it) is

  submits_other : (setting : Setting C) (call : C) (it : Result ProcessState WorldFault) → running w.servers number ≡ it → stored_in (submits setting w number call it).0.servers other ≡ stored_in w.servers other
  submits_other setting call (Ok it) is = submits_by setting call it (is_serving it.state.peer.role) (is_taken (setting.tag call) w.tags.calls) is
  submits_other setting call (Err fault) is = refl

  syncs_by : (tag : ℕ) (it : ProcessState) (serves taken : Bool) → running w.servers number ≡ Ok it
      → stored_in (if serves then (if taken then (w, Err faults.DuplicateCall) else spends_sync tag (acts w number (λ state. rules.sync state tag) (Ok it))) else (w, Err faults.NotServing)).0.servers other ≡ stored_in w.servers other
  syncs_by tag it false taken is = refl
  syncs_by tag it true true is = refl
  syncs_by tag it true false is =
      ap (λ (s : List ProcessState). stored_in s other) (spends_sync_servers tag (acts w number (λ state. rules.sync state tag) (Ok it))) ∙ acts_other (λ state. rules.sync state tag) (Ok it) is

  syncs_other : (tag : ℕ) (it : Result ProcessState WorldFault) → running w.servers number ≡ it → stored_in (syncs w number tag it).0.servers other ≡ stored_in w.servers other
  syncs_other tag (Ok it) is = syncs_by tag it (is_serving it.state.peer.role) (is_taken tag w.tags.syncs) is
  syncs_other tag (Err fault) is = refl

  crashes_other : (it : Result ProcessState WorldFault) → running w.servers number ≡ it → stored_in (crashes w number it).0.servers other ≡ stored_in w.servers other
  crashes_other (Ok it) is = place_other (standing false (crashed it.state)) (found w.servers number it (up_is (server_at w.servers number) it is)).above
  crashes_other (Err fault) is = refl

  restarts_other : (it : Result ProcessState WorldFault) → resting w.servers number ≡ it → stored_in (restarts w number it).0.servers other ≡ stored_in w.servers other
  restarts_other (Ok it) is = place_other (standing true it.state) (found w.servers number it (down_is (server_at w.servers number) it is)).above
  restarts_other (Err fault) is = refl

  follows_other : (leader : ℕ) (one : Bool) → stored_in (if one then acts w number (λ state. rules.follow state leader) (running w.servers number) else (w, Err faults.NoServer)).0.servers other ≡ stored_in w.servers other
  follows_other leader true = acts_other (λ state. rules.follow state leader) (running w.servers number) refl
  follows_other leader false = refl

arrives_other : {C : Type 0} (setting : Setting C) (w : World C) (other : ℕ) (it : Option (Message C)) → other ≢ addressee_of it → stored_in (arrives setting w it).0.servers other ≡ stored_in w.servers other
arrives_other setting w other None differs = refl
arrives_other setting w other (Some it) differs = acts_other w it.addressee other differs (receives setting it.sender it.body) (running w.servers it.addressee) refl

pub only_its : {C : Type 0} (profile : Profile C) → OnlyItsServerChanges profile
only_its profile w (Lead number) other differs = acts_other w number other differs rules.lead (running w.servers number) refl
only_its profile w (Follow number leader) other differs = follows_other w number other differs leader (is_server (length w.servers) leader && not (number == leader))
only_its profile w (Arrive number) other differs = arrives_other profile.setting w other (message_at w.messages number) differs
only_its profile w (Submit number call) other differs = submits_other w number other differs profile.setting call (running w.servers number) refl
only_its profile w (Expire number tag session now) other differs = submits_other w number other differs profile.setting (profile.closing tag session now) (running w.servers number) refl
only_its profile w (Sync number tag) other differs = syncs_other w number other differs tag (running w.servers number) refl
only_its profile w (Crash number) other differs = crashes_other w number other differs (running w.servers number) refl
only_its profile w (Restart number) other differs = restarts_other w number other differs (resting w.servers number) refl

pub front_left : {C : Type 0} (profile : Profile C) → CrashesLeaveAPrefix profile
front_left profile servers events event stored left recoverable l =
    let w = (run profile servers events).0 in
    let n = mover w event in
    elim l.its [
      | inl before ↦ inl (λ number. elim (cases_eq number n) [
        | inl same ↦ subst (λ (k : ℕ). left k ≡ stable_of w k) (sym same) (before ∙ recoverable n)
        | inr differs ↦ l.others number differs ∙ recoverable number
      ])
      | inr behind ↦ inr (λ number. elim (cases_eq number n) [
        | inl same ↦ subst (λ (k : ℕ). left k ≡ stable_of (run profile servers (events ++ event ∷ [])).0 k) (sym same) behind
        | inr differs ↦
            l.others number differs ∙ recoverable number ∙ sym (only_its profile w event number differs)
            ∙ ap (λ x. stable_of x number) (sym (after_more profile (new_world servers) events event))
      ])
    ]
