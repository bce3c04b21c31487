-- Messages that arrive in order of number, each once. Own.
use Rattle.std.specs.Prelude.{◌≡◌, ◌≤◌, ◌<◌, ℕ, ◌+◌, List, [], ◌∷◌, length, map, true}
use Rattle.std.specs.List.{range_with_len}
use Rattle.zab_model.specs.declared.event.Event.TheVariants.{Arrive}
use Rattle.zk_line_protocol.specs.declared.told.ServiceFault.{ServiceFault}
use Rattle.zk_line_protocol.specs.declared.told.ServiceFault.TheVariants as services
use Rattle.zk_ensemble.specs.Views.{EnsembleView}
use Rattle.zk_model.specs.Ensembles.{Told}
use Rattle.zk_model.specs.declared.event.Event.{Event}
use Rattle.zk_model.specs.declared.event.Event.TheVariants as events
use Rattle.zk_front.specs.Happening.{Ran, Happens, is_lack}
use Rattle.zk_front.specs.declared.ensemble_servers.Servers.{Servers}

-- an ensemble, with the number of its messages that have arrived
abbrev pub servers_at : EnsembleView → ℕ → Servers
servers_at it arrived = record { ensemble = it; arrived = arrived }

abbrev pub arrival : ℕ → Event
arrival number = events.World (Arrive number)

-- `n` messages after the first ones
abbrev pub arrivals : ℕ → ℕ → List Event
arrivals from count = map arrival (range_with_len (from + 1) count)

-- the most that arrive at a time
abbrev pub most_arrivals : ℕ
most_arrivals = 1048576

-- `count` have arrived
pub record Arrives (old : Servers) (count : ℕ) (new : Servers) : Type 0 where
  pub ran : Ran old.ensemble (arrivals old.arrived count) new.ensemble
  pub arrived : new.arrived ≡ old.arrived + count

-- the next one has arrived
pub record ArrivesNext (old new : Servers) : Type 0 where
  pub ran : Ran old.ensemble (arrival (old.arrived + 1) ∷ []) new.ensemble
  pub arrived : new.arrived ≡ old.arrived + 1

-- the next one failed to allocate
pub record LacksNext (old new : Servers) : Type 0 where
  pub answer : Told
  pub lack : is_lack answer ≡ true
  pub happens : Happens old.ensemble (arrival (old.arrived + 1)) answer new.ensemble
  pub arrived : new.arrived ≡ old.arrived

-- all have arrived
pub record Delivered (old new : Servers) : Type 0 where
  pub count : ℕ
  pub few : count ≤ most_arrivals
  pub arrives : Arrives old count new
  pub all : length new.ensemble.below.world.messages ≤ new.arrived

-- one failed to allocate, after some that arrived
pub record Broken (old new : Servers) : Type 0 where
  pub count : ℕ
  pub mid : Servers
  pub arrives : Arrives old count mid
  pub more : mid.arrived < length mid.ensemble.below.world.messages
  pub lacks : LacksNext mid new

-- more are left than may arrive at a time
pub record Overrun (old new : Servers) : Type 0 where
  pub count : ℕ
  pub full : count ≡ most_arrivals
  pub arrives : Arrives old count new
  pub more : new.arrived < length new.ensemble.below.world.messages

abbrev pub IsUndelivered : Servers → ServiceFault → Servers → Type 0
IsUndelivered old services.Memory new = Broken old new
IsUndelivered old services.Server new = Overrun old new
IsUndelivered old services.Behind new = ⊥
