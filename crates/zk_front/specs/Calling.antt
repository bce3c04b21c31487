-- The calls of a service by a seat. Own.
use Rattle.std.specs.Prelude.{◌≡◌, ◌≤◌, ℕ, All, List, [], ◌∷◌, ◌++◌}
use Rattle.zab_model.specs.declared.event.Event.TheVariants.{Submit, Expire, Sync}
use Rattle.zk_model.specs.declared.event.Event.{Event}
use Rattle.zk_model.specs.declared.event.Event.TheVariants as events
use Rattle.zk_servers.specs.declared.record.Receipt.{Receipt}
use Rattle.zk_servers.specs.declared.calls.Made.{Made}
use Rattle.zk_servers.specs.Calls.{made}
use Rattle.zk_servers.specs.Turns.{events_of, numbers_of, numbers_told}

-- the calls of a seat, a receipt for each, and the last tag that was used
pub record Calling : Type 0 where
  pub calls : List Made
  pub receipts : List Receipt
  pub tag : ℕ

-- no call
abbrev pub unused : Calling
unused = record { calls = []; receipts = []; tag = 0 }

-- the tag of an event is at most the last one used
abbrev pub IsGiven : ℕ → Event → Type 0
IsGiven tag (events.World (Submit server call)) = call.tag ≤ tag
IsGiven tag (events.World (Expire server own session now)) = own ≤ tag
IsGiven tag (events.World (Sync server own)) = own ≤ tag
IsGiven tag event = Unit {0}

-- a tag above the last one is therefore new to the seat; and there is a receipt for each call
pub record IsKept (it : Calling) : Type 0 where
  pub given : All (λ call. IsGiven it.tag call.event) it.calls
  pub told : numbers_told it.receipts ≡ numbers_of it.calls

-- an event was called, and its receipt is kept
pub record CallsOne (old : Calling) (event : Event) (new : Calling) : Type 0 where
  pub receipt : Receipt
  pub added : new.calls ≡ old.calls ++ made receipt.number event ∷ []
  pub kept : new.receipts ≡ old.receipts ++ receipt ∷ []

-- these events were called, in order, and no receipt is lost
pub record Calls (old : Calling) (events : List Event) (new : Calling) : Type 0 where
  pub calls : List Made
  pub receipts : List Receipt
  pub added : new.calls ≡ old.calls ++ calls
  pub kept : new.receipts ≡ old.receipts ++ receipts
  pub made : events_of calls ≡ events
