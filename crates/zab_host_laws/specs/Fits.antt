-- The inputs that a host's server takes are its own: what a host's contract tests of an input is
-- what the network of all hosts asks for.
use Rattle.std.specs.Prelude.{◌≡◌, ℕ, true, List, [], ◌∷◌, length, Some}
use Rattle.zab_broadcast.specs.declared.state.State.{State}
use Rattle.zab_broadcast.specs.Calls.{Setting}
use Rattle.zab_model.specs.ProcessStates.{ProcessState}
use Rattle.zab_model.specs.Worlds.{Profile, server_at}
use Rattle.zab_host_laws.specs.Hosts.{Network, Step, new_network, after_steps}
use Rattle.zab_host.specs.Hosts.{Input, IsFor, acts_of}
use Rattle.zab_host_laws.specs.Composition.{AreSteps, RestartsFrom}

-- each input is for the server in the state that it has by then
abbrev pub AllFor : {C : Type 0} → Setting C → State → List (Input C) → Type 0
AllFor setting state [] = Unit {0}
AllFor setting state (input ∷ inputs) = IsFor state input × AllFor setting (acts_of setting state input).0 inputs

-- a server of the network knows its number and how many servers there are, and it is up
pub record IsNumbered {C : Type 0} (c : Network C) (number : ℕ) (it : ProcessState) : Type 0 where
  pub me : it.state.peer.me ≡ number
  pub servers : it.state.peer.servers ≡ length c.servers
  pub up : it.up ≡ true

-- Of each number of hosts, after any steps.
abbrev pub HostsKeepTheirNumbers : {C : Type 0} → Profile C → Type 0
HostsKeepTheirNumbers {C} profile =
    (servers : ℕ) (steps : List (Step C)) (number : ℕ) (it : ProcessState)
    → server_at (after_steps profile (new_network servers) steps).servers number ≡ Some it
    → IsNumbered (after_steps profile (new_network servers) steps) number it

-- So all inputs that a host accepts, and each restart, are steps of the network.
abbrev pub AcceptedInputsAreSteps : {C : Type 0} → Profile C → Type 0
AcceptedInputsAreSteps {C} profile =
    (servers : ℕ) (steps : List (Step C)) (number : ℕ) (it : ProcessState) (inputs : List (Input C))
    → server_at (after_steps profile (new_network servers) steps).servers number ≡ Some it
    → AllFor profile.setting it.state inputs
    → AreSteps profile (after_steps profile (new_network servers) steps) number it inputs
    × RestartsFrom profile (after_steps profile (new_network servers) steps) number it
