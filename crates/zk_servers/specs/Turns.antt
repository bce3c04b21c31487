-- The effect of a server's thread in its turns.
use Rattle.std.specs.Prelude.{◌≡◌, ◌⊎◌, ◌+◌, ℕ, All, List, [], ◌∷◌, ◌++◌, map, take}
use Rattle.zk_model.specs.declared.event.Event.{Event}
use Rattle.zk_model.specs.declared.event.Event.TheVariants as events
use Rattle.zab_model.specs.declared.event.Event.TheVariants.{Arrive}
use Rattle.zk_servers.specs.declared.record.Receipt.{Receipt}
use Rattle.zk_servers.specs.declared.calls.Made.{Made}

-- these are the events in order, except `n` that are passed over
abbrev pub IsAllBut : ℕ → List Event → List Event → Type 0
IsAllBut passed [] kept = (passed ≡ 0) × (kept ≡ [])
IsAllBut passed (event ∷ events) kept =
    ((rest : List Event) × (kept ≡ event ∷ rest) × IsAllBut passed events rest)
    ⊎ ((fewer : ℕ) × (passed ≡ fewer + 1) × IsAllBut fewer events kept)

abbrev pub IsArrival : Event → Type 0
IsArrival event = (message : ℕ) × (event ≡ events.World (Arrive message))

abbrev pub events_of : List Made → List Event
events_of calls = map (λ call. call.event) calls

abbrev pub numbers_of : List Made → List ℕ
numbers_of calls = map (λ call. call.number) calls

abbrev pub numbers_told : List Receipt → List ℕ
numbers_told receipts = map (λ receipt. receipt.number) receipts

-- the calls of `turns` turns: jobs first, in order, and then arrivals alone
pub record AreOfTurns (jobs : List Event) (turns passed : ℕ) (calls : List Made) : Type 0 where
  pub busy : List Made
  pub idle : List Made
  pub are : calls ≡ busy ++ idle
  pub jobs_made : IsAllBut passed (take turns jobs) (events_of busy)
  pub arrivals : All IsArrival (events_of idle)

-- the calls that a thread adds to a seat, and their receipts
pub record DidTurns (before : List Made) (jobs : List Event) (turns : ℕ) (after : List Made) (receipts : List Receipt) (passed : ℕ) : Type 0 where
  pub calls : List Made
  pub added : after ≡ before ++ calls
  pub of_turns : AreOfTurns jobs turns passed calls
  pub told : numbers_told receipts ≡ numbers_of calls
