-- Which inputs survive a crash during a store.
use Rattle.std.specs.Prelude.{◌≡◌, ℕ, List, [], ◌∷◌, take}
use Rattle.zab_epoch.specs.declared.stable.Stable.{Stable}
use Rattle.zab_broadcast.specs.declared.state.State.{State}
use Rattle.zab_broadcast.specs.Calls.{Setting}
use Rattle.zab_host.specs.Growth.{IsAppendOnly}
use Rattle.zab_host.specs.Hosts.{Input}
use Rattle.zab_host.specs.Durability.{IsPartialWrite}
use Rattle.zab_host_laws.specs.Composition.{after_inputs}

abbrev pub AreAppendOnly : {C : Type 0} → List (Input C) → Type 0
AreAppendOnly [] = Unit {0}
AreAppendOnly (input ∷ inputs) = IsAppendOnly input × AreAppendOnly inputs

-- A crash while append-only inputs are stored leaves the stable part after a prefix of them.
abbrev pub CrashesLeaveInputPrefixes : {C : Type 0} → Setting C → Type 0
CrashesLeaveInputPrefixes {C} setting = (state : State) (inputs : List (Input C)) (left : Stable) → AreAppendOnly inputs
    → IsPartialWrite state.peer.stable (after_inputs setting state inputs).peer.stable left
    → (count : ℕ) × (left ≡ (after_inputs setting state (take count inputs)).peer.stable)
