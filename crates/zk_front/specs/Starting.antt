-- The start of a service over servers. Own.
use Rattle.std.specs.Prelude.{◌≤◌, ℕ, zero, suc, ◌+◌, ◌-◌, List, [], ◌∷◌, ◌++◌}
use Rattle.zab_model.specs.declared.event.Event.TheVariants.{Arrive, Follow, Lead}
use Rattle.zk_model.specs.declared.event.Event.{Event}
use Rattle.zk_model.specs.declared.event.Event.TheVariants as events
use Rattle.zk_front.specs.Calling.{Calling, Calls}

-- `n` other servers follow server 1
abbrev pub followings : ℕ → List Event
followings zero = []
followings (suc others) = followings others ++ events.World (Follow (others + 2) 1) ∷ []

-- the first `n` messages arrive, once each
abbrev pub arrivals : ℕ → List Event
arrivals zero = []
arrivals (suc messages) = arrivals messages ++ events.World (Arrive (messages + 1)) ∷ []

pub record Arrives (old new : Calling) : Type 0 where
  pub messages : ℕ
  pub few : messages ≤ 1048576
  pub calls : Calls old (arrivals messages) new

-- server 1 leads, the others follow it, and then messages arrive
pub record Begins (servers : ℕ) (old new : Calling) : Type 0 where
  pub ready : Calling
  pub calls : Calls old (events.World (Lead 1) ∷ followings (servers - 1)) ready
  pub arrives : Arrives ready new
