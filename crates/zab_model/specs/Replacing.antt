-- Which events make a server drop entries. Own; at a NewLeader a follower of Zab keeps only what it
-- shares with its leader.
use Rattle.std.specs.Prelude.{Bool, true, false, nat_lt, List, length, Option, Some, None}
use Rattle.zab_epoch.specs.declared.history.Entry.{Entry}
use Rattle.zab_epoch.specs.declared.message.Body.{Body}
use Rattle.zab_epoch.specs.declared.message.Body.TheVariants.{NewLeader}
use Rattle.zab_epoch.specs.declared.message.Message.{Message}
use Rattle.zab_epoch.specs.Entries.{up_to}
use Rattle.zab_model.specs.declared.event.Event.{Event}
use Rattle.zab_model.specs.declared.event.Event.TheVariants.{Arrive}
use Rattle.zab_model.specs.Runs.{history_of}
use Rattle.zab_model.specs.Worlds.{World, message_at}

-- a server with this history has entries after those that the message keeps
abbrev pub is_cut_by : {C : Type 0} → Body C → List Entry → Bool
is_cut_by (NewLeader epoch keep rest) own = nat_lt (length (up_to keep own)) (length own)
is_cut_by body own = false

abbrev pub cuts : {C : Type 0} → World C → Option (Message C) → Bool
cuts w None = false
cuts w (Some it) = is_cut_by it.body (history_of w it.addressee)

-- after every other event, a server's history begins with what it had
abbrev pub replaces : {C : Type 0} → World C → Event C → Bool
replaces w (Arrive number) = cuts w (message_at w.messages number)
replaces w event = false
