-- Hosts that store groups of inputs, and release no message before.
use Rattle.std.specs.Prelude.{◌≡◌, ℕ, Bool, true, false, List, [], ◌∷◌, ◌++◌, map, Some}
use Rattle.zab_broadcast.specs.Calls.{is_taken}
use Rattle.zab_model.specs.Worlds.{Profile, message_at}
use Rattle.zab_host_laws.specs.Hosts as steps
use Rattle.zab_host_laws.specs.Hosts.{Network, Step, new_network, after_steps, MayStepAll, calls_after, syncs_after}
use Rattle.zab_host.specs.Hosts.{Input, Receives, Submits, Syncs}
use Rattle.zab_host_laws.specs.Composition.{step_of}

-- A host's inputs since its last release, all stored, and the release of their messages. With
-- `crashes` the host crashed before: these are the inputs that survived, their messages are lost,
-- and the host has restarted.
pub record Release (C : Type 0) : Type 0 where
  pub number : ℕ
  pub inputs : List (Input C)
  pub crashes : Bool

abbrev pub restart_of : {C : Type 0} → ℕ → Bool → List (Step C)
restart_of number true = steps.Restarts number ∷ []
restart_of number false = []

abbrev pub steps_in : {C : Type 0} → List (Release C) → List (Step C)
steps_in [] = []
steps_in (it ∷ outs) = map (step_of it.number) it.inputs ++ (restart_of it.number it.crashes ++ steps_in outs)

-- a host receives what was released before
abbrev pub WasSent : {C : Type 0} → Network C → Input C → Type 0
WasSent c (Receives message) = (number : ℕ) × (message_at c.messages number ≡ Some message)
WasSent c input = Unit {0}

abbrev pub WereSent : {C : Type 0} → Network C → List (Input C) → Type 0
WereSent c [] = Unit {0}
WereSent c (input ∷ inputs) = WasSent c input × WereSent c inputs

abbrev pub ReceiveWhatWasSent : {C : Type 0} → Profile C → Network C → List (Release C) → Type 0
ReceiveWhatWasSent profile c [] = Unit {0}
ReceiveWhatWasSent profile c (it ∷ outs) =
    WereSent c it.inputs
    × ReceiveWhatWasSent profile (after_steps profile (after_steps profile c (map (step_of it.number) it.inputs)) (restart_of it.number it.crashes)) outs

-- no two calls and no two syncs share a tag
abbrev pub IsFreshTag : {C : Type 0} → Profile C → List ℕ → List ℕ → Step C → Type 0
IsFreshTag profile calls syncs (steps.Submits number call) = is_taken (profile.setting.tag call) calls ≡ false
IsFreshTag profile calls syncs (steps.Syncs number tag) = is_taken tag syncs ≡ false
IsFreshTag profile calls syncs step = Unit {0}

abbrev pub AreFreshTags : {C : Type 0} → Profile C → List ℕ → List ℕ → List (Step C) → Type 0
AreFreshTags profile calls syncs [] = Unit {0}
AreFreshTags profile calls syncs (step ∷ some) =
    IsFreshTag profile calls syncs step × AreFreshTags profile (calls_after profile calls step) (syncs_after syncs step) some

-- The releases of hosts, in the order of their stores, are steps that hosts may make: what holds
-- over all lists of steps holds of them.
abbrev pub ReleasesAreSteps : {C : Type 0} → Profile C → Type 0
ReleasesAreSteps {C} profile = (servers : ℕ) (outs : List (Release C)) → ReceiveWhatWasSent profile (new_network servers) outs
    → AreFreshTags profile [] [] (steps_in outs)
    → MayStepAll profile (new_network servers) [] [] (steps_in outs)
