-- A host's own contract, and its steps on the network of all hosts.
use Rattle.std.specs.Prelude.{◌≡◌, ◌≢◌, ℕ, ◌==◌, ◌&&◌, not, true, List, [], ◌∷◌, ◌++◌, length, map, Some}
use Rattle.zab_epoch.specs.declared.message.Message.{Message}
use Rattle.zab_broadcast.specs.declared.state.State.{State}
use Rattle.zab_broadcast.specs.Calls.{Setting}
use Rattle.zab_broadcast.specs.Rules.{restored}
use Rattle.zab_model.specs.ProcessStates.{ProcessState, standing}
use Rattle.zab_model.specs.Worlds.{Profile, is_server, server_at}
use Rattle.zab_host_laws.specs.Hosts as steps
use Rattle.zab_host_laws.specs.Hosts.{Network, Step, after_step, after_steps}
use Rattle.zab_host.specs.Hosts.{Input, Receives, Submits, Syncs, Leads, Follows, acts_of, messages_of}

-- a host's input as a step of the network
abbrev pub step_of : {C : Type 0} → ℕ → Input C → Step C
step_of number (Receives message) = steps.Receives message
step_of number (Submits call) = steps.Submits number call
step_of number (Syncs tag) = steps.Syncs number tag
step_of number Leads = steps.Leads number
step_of number (Follows leader) = steps.Follows number leader

-- the input is for server `number` of `servers`
abbrev pub Fits : {C : Type 0} → ℕ → ℕ → Input C → Type 0
Fits servers number (Receives message) = message.addressee ≡ number
Fits servers number (Follows leader) = (is_server servers leader && not (number == leader)) ≡ true
Fits servers number input = Unit {0}

abbrev pub AllFit : {C : Type 0} → ℕ → ℕ → List (Input C) → Type 0
AllFit servers number [] = Unit {0}
AllFit servers number (input ∷ inputs) = Fits servers number input × AllFit servers number inputs

-- the server's state after inputs, and their messages
abbrev pub after_inputs : {C : Type 0} → Setting C → State → List (Input C) → State
after_inputs setting state [] = state
after_inputs setting state (input ∷ inputs) = after_inputs setting (acts_of setting state input).0 inputs

abbrev pub messages_in : {C : Type 0} → Setting C → State → List (Input C) → List (Message C)
messages_in setting state [] = []
messages_in setting state (input ∷ inputs) = messages_of (acts_of setting state input).1 ++ messages_in setting (acts_of setting state input).0 inputs

-- A host's inputs, as steps of the network, give the network the state that the host has, send its
-- messages, and change no other server.
pub record AreSteps {C : Type 0} (profile : Profile C) (c : Network C) (number : ℕ) (it : ProcessState) (inputs : List (Input C)) : Type 0 where
  pub state : server_at (after_steps profile c (map (step_of number) inputs)).servers number ≡ Some (standing true (after_inputs profile.setting it.state inputs))
  pub messages : (after_steps profile c (map (step_of number) inputs)).messages ≡ c.messages ++ messages_in profile.setting it.state inputs
  pub others : (other : ℕ) → other ≢ number → server_at (after_steps profile c (map (step_of number) inputs)).servers other ≡ server_at c.servers other

abbrev pub InputsAreSteps : {C : Type 0} → Profile C → Type 0
InputsAreSteps {C} profile = (c : Network C) (number : ℕ) (it : ProcessState) (inputs : List (Input C))
    → server_at c.servers number ≡ Some it → it.up ≡ true → AllFit (length c.servers) number inputs
    → AreSteps profile c number it inputs

-- A restarted host has its stable part alone. Nothing is sent, and no other server changes.
pub record RestartsFrom {C : Type 0} (profile : Profile C) (c : Network C) (number : ℕ) (it : ProcessState) : Type 0 where
  pub state : server_at (after_step profile c (steps.Restarts number)).servers number
      ≡ Some (standing true (restored it.state.peer.servers it.state.peer.me it.state.peer.stable))
  pub messages : (after_step profile c (steps.Restarts number)).messages ≡ c.messages
  pub others : (other : ℕ) → other ≢ number → server_at (after_step profile c (steps.Restarts number)).servers other ≡ server_at c.servers other

abbrev pub RestartsAreSteps : {C : Type 0} → Profile C → Type 0
RestartsAreSteps {C} profile = (c : Network C) (number : ℕ) (it : ProcessState) → server_at c.servers number ≡ Some it → it.up ≡ true → RestartsFrom profile c number it
