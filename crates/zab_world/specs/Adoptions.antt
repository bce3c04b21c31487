-- A NewLeader that arrives at a running server, and the server's reply. Own.
use Rattle.std.specs.Prelude.{◌≡◌, ◌⊎◌, ◌≤◌, ℕ, ℤ, Bool, true, false, if◌then◌else◌, List, [], ◌∷◌, length, take, Option, Some, None, Ok}
use Rattle.zab_epoch.specs.declared.history.Entry.{Entry}
use Rattle.zab_epoch.specs.declared.message.Body.{Body}
use Rattle.zab_epoch.specs.declared.message.Body.TheVariants.{NewLeader, AckLeader}
use Rattle.zab_epoch.specs.declared.message.Message.{Message}
use Rattle.zab_epoch.specs.declared.stable.Stable.{Stable}
use Rattle.zab_epoch.specs.Rules.{is_behind, meant}
use Rattle.zab_epoch.specs.Sending.{message}
use Rattle.zab_broadcast.specs.declared.state.State.{State}
use Rattle.zab_broadcast.specs.Calls.{Setting}
use Rattle.zab_broadcast.specs.Rules.{Acts}
use Rattle.zab_model.specs.declared.event.Event.{Event}
use Rattle.zab_model.specs.declared.event.Event.TheVariants.{Arrive, Crash}
use Rattle.zab_model.specs.Movers.{mover}
use Rattle.zab_model.specs.Runs.{delivered_of}
use Rattle.zab_model.specs.ProcessStates.{ProcessState}
use Rattle.zab_model.specs.Worlds.{World, Profile, running, receives, message_at, happens}
use Rattle.zab_world.specs.declared.adoption.Adoption.{Adoption}

-- ---- which events deliver a NewLeader

abbrev pub is_new_leader : {C : Type 0} → Body C → Bool
is_new_leader (NewLeader epoch keep rest) = true
is_new_leader body = false

abbrev pub tells_new_leader : {C : Type 0} → Option (Message C) → Bool
tells_new_leader None = false
tells_new_leader (Some it) = is_new_leader it.body

abbrev pub brings_new_leader : {C : Type 0} → World C → Event C → Bool
brings_new_leader w (Arrive number) = tells_new_leader (message_at w.messages number)
brings_new_leader w event = false

-- The world in which the server had crashed instead; none after a NewLeader, for which a server
-- delivers no more.
abbrev pub MayFall : {C : Type 0} → Profile C → World C → Event C → World C → Option (World C) → Type 0
MayFall profile w event next fallen =
    ((brings_new_leader w event ≡ false) × (fallen ≡ Some (happens profile w (Crash (mover w event))).0))
    ⊎ ((brings_new_leader w event ≡ true)
    × ((fallen ≡ None) × (length (delivered_of next (mover w event)) ≤ length (delivered_of w (mover w event)))))

-- ---- the reply

-- the number of entries that a server acknowledges if it takes this NewLeader
abbrev pub acked_by : Stable → ℕ → ℤ → List Entry → ℕ
acked_by stable epoch keep rest =
    if is_behind stable epoch (length (meant stable.history keep rest))
    then length (meant stable.history keep rest)
    else length stable.history

abbrev pub ack_of : {C : Type 0} → Adoption → Message C
ack_of it = message it.sender it.addressee (AckLeader it.epoch it.length)

-- a server that acts so sends this message, or nothing
abbrev pub Says : {C : Type 0} → Message C → Acts C → Type 0
Says ack acts = (acts.1 ≡ Ok []) ⊎ (acts.1 ≡ Ok (ack ∷ []))

-- and it delivers no more than before
abbrev pub DeliversNoMore : {C : Type 0} → State → Acts C → Type 0
DeliversNoMore state acts =
    length (take acts.0.delivered acts.0.peer.stable.history) ≤ length (take state.delivered state.peer.stable.history)

-- an event is the arrival of a NewLeader, to which its addressee replies with this or nothing
pub record IsPredicted {C : Type 0} (servers : List ProcessState) (messages : List (Message C)) (event : Event C) (joining : Adoption) : Type 0 where
  pub message : Message C
  pub arrives : event ≡ Arrive joining.number
  pub is : message_at messages joining.number ≡ Some message
  pub brings : is_new_leader message.body ≡ true
  pub says : (setting : Setting C) (it : ProcessState) → running servers message.addressee ≡ Ok it
      → Says (ack_of joining) (receives setting message.sender message.body it.state)
  pub delivers : (setting : Setting C) (it : ProcessState) → running servers message.addressee ≡ Ok it
      → DeliversNoMore it.state (receives setting message.sender message.body it.state)
