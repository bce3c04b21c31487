-- The start of a service's ensemble. Own.
use Rattle.std.specs.Prelude.{◌≡◌, ◌⊎◌, ℕ, ◌+◌, ◌-◌, List, [], ◌∷◌, ◌++◌, map, replicate, take, Err}
use Rattle.std.specs.List.{range_with_len}
use Rattle.zab_model.specs.declared.event.Event.TheVariants.{Lead, Follow}
use Rattle.zab_model.specs.Worlds.{new_world}
use Rattle.zk_line_protocol.specs.declared.told.ServiceFault.{ServiceFault}
use Rattle.zk_line_protocol.specs.declared.told.ServiceFault.TheVariants as services
use Rattle.zk_ensemble.specs.Views.{EnsembleView}
use Rattle.zk_front.specs.Asks.{service_fault_of}
use Rattle.zk_model.specs.Ensembles.{fresh}
use Rattle.zk_model.specs.declared.event.Event.{Event}
use Rattle.zk_model.specs.declared.event.Event.TheVariants as events
use Rattle.zk_model.specs.declared.fault.EnsembleFault.{EnsembleFault}
use Rattle.zk_front.specs.Arriving.{servers_at, Delivered, IsUndelivered}
use Rattle.zk_front.specs.Happening.{Ran, Happens}
use Rattle.zk_front.specs.declared.ensemble_servers.Servers.{Servers}

-- a server follows server 1
abbrev pub following : ℕ → Event
following number = events.World (Follow number 1)

-- `n` servers after server 1 follow it
abbrev pub followers : ℕ → List Event
followers count = map following (range_with_len 2 count)

-- server 1 leads, and the others follow it
abbrev pub beginning : ℕ → List Event
beginning servers = events.World (Lead 1) ∷ followers (servers - 1)

-- a new ensemble of `n` servers, each of weight 1
abbrev pub new_view : ℕ → EnsembleView
new_view servers = record {
  below = record {
    quorums = replicate servers 1;
    servers = servers;
    world = new_world servers;
  };
  shown = replicate servers fresh;
}

-- a new ensemble has started like this, and all messages have arrived
pub record IsBegun (count : ℕ) (it : Servers) : Type 0 where
  pub mid : EnsembleView
  pub ran : Ran (new_view count) (beginning count) mid
  pub delivered : Delivered (servers_at mid 0) it

-- ---- or it does not start

-- the ensemble rejected an event, and this is the service's fault for it
pub record Refused (old : EnsembleView) (event : Event) (fault : ServiceFault) (new : EnsembleView) : Type 0 where
  pub why : EnsembleFault
  pub happens : Happens old event (Err why) new
  pub word : fault ≡ service_fault_of why

-- a prefix of these events happened, and the next one failed
pub record BrokeOff (old : EnsembleView) (some : List Event) (fault : ServiceFault) (new : EnsembleView) : Type 0 where
  pub count : ℕ
  pub event : Event
  pub mid : EnsembleView
  pub next : take (count + 1) some ≡ take count some ++ event ∷ []
  pub ran : Ran old (take count some) mid
  pub refused : Refused mid event fault new

-- all of them happened, and not all messages arrived
pub record IsLeftWaiting (count : ℕ) (fault : ServiceFault) : Type 0 where
  pub mid : EnsembleView
  pub end : Servers
  pub ran : Ran (new_view count) (beginning count) mid
  pub undelivered : IsUndelivered (servers_at mid 0) fault end

-- the ensemble failed to allocate, or one of the events failed, or messages are left
abbrev pub IsUnbegun : ℕ → ServiceFault → Type 0
IsUnbegun count fault =
    (fault ≡ services.Memory)
    ⊎ (((end : EnsembleView) × BrokeOff (new_view count) (beginning count) fault end) ⊎ IsLeftWaiting count fault)
