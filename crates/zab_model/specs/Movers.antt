-- Which server an event concerns. Own.
use Rattle.std.specs.Prelude.{ℕ, Option, Some, None}
use Rattle.zab_epoch.specs.declared.message.Message.{Message}
use Rattle.zab_model.specs.declared.event.Event.{Event}
use Rattle.zab_model.specs.declared.event.Event.TheVariants.{Lead, Follow, Arrive, Submit, Expire, Sync, Crash, Restart}
use Rattle.zab_model.specs.Worlds.{World, message_at}

-- 0 without a message
abbrev pub addressee_of : {C : Type 0} → Option (Message C) → ℕ
addressee_of None = 0
addressee_of (Some it) = it.addressee

-- the only server that an event may change
abbrev pub mover : {C : Type 0} → World C → Event C → ℕ
mover w (Lead number) = number
mover w (Follow number leader) = number
mover w (Arrive number) = addressee_of (message_at w.messages number)
mover w (Submit number call) = number
mover w (Expire number tag session now) = number
mover w (Sync number tag) = number
mover w (Crash number) = number
mover w (Restart number) = number
