-- The servers' places: a server runs, or has crashed and has its store alone.
use Rattle.std.specs.Prelude.{◌≡◌, ◌-◌, ◌<◌, ℕ, Bool, true, false, List, length, set, get_or, slice_get, Option, Some, None, Result, Ok, Err}
use Rattle.zab_broadcast.specs.Calls.{Setting}
use Rattle.zab_epoch.specs.declared.message.Message.{Message}
use Rattle.zab_epoch.specs.declared.stable.Stable.{Stable}
use Rattle.zk_host.specs.declared.replica_host.ReplicaHost.{ReplicaHost}
use Rattle.zk_peers.specs.declared.place.Place.{Place}
use Rattle.zk_peers.specs.declared.place.Place.TheVariants.{Up, Down, Failed}
use Rattle.zk_peers.specs.Hosts.{Takes, HearsAll, HasStarted, role_input}
use Rattle.zk_requests.specs.declared.call.Call.{Call}

abbrev pub host_in : {S : Type 0} → Place S → Option (ReplicaHost S)
host_in (Up host) = Some host
host_in (Down storage) = None
host_in Failed = None

abbrev pub is_up : {S : Type 0} → Place S → Bool
is_up (Up host) = true
is_up (Down storage) = false
is_up Failed = false

-- what it has stored survives a crash
abbrev pub after_crash : {S : Type 0} → Place S → Place S
after_crash (Up host) = Down host.host.storage
after_crash place = place

-- a server that is down starts on its store
abbrev pub Restarts : {S : Type 0} → (S → Type 0) → (S → Stable → Type 0) → (S → ℕ) → ℕ → ℕ → Place S → Place S → Type 0
Restarts clean may_recover boots servers me (Down storage) (Up host) = HasStarted clean may_recover boots servers me storage host
Restarts clean may_recover boots servers me old new = ⊥

-- a server that is up leads, or follows the leader
abbrev pub TakesRole : {S : Type 0} → (S → Stable → Type 0) → (S → ℕ) → Setting Call → ℕ → ℕ → Place S → Place S → Type 0
TakesRole may_recover boots setting server leader (Up old) (Up new) =
    Takes may_recover boots setting (role_input server leader) old new (Ok tt)
TakesRole may_recover boots setting server leader (Up old) (Down storage) = ⊥
TakesRole may_recover boots setting server leader (Up old) Failed = ⊥
TakesRole may_recover boots setting server leader old new = new ≡ old

-- a server that is up receives messages; those to others are lost
abbrev pub HearsAt : {S : Type 0} → (S → Stable → Type 0) → (S → ℕ) → Setting Call → List (Message Call) → Place S → Place S → Type 0
HearsAt may_recover boots setting messages (Up old) (Up new) = HearsAll may_recover boots setting messages old new
HearsAt may_recover boots setting messages (Up old) (Down storage) = ⊥
HearsAt may_recover boots setting messages (Up old) Failed = ⊥
HearsAt may_recover boots setting messages old new = new ≡ old

-- the place of the server with this number changes, and no other
pub record ChangesAt {S : Type 0} (server : ℕ) (Changes : Place S → Place S → Type 0) (old new : List (Place S)) : Type 0 where
  pub before : Place S
  pub after : Place S
  pub within : server - 1 < length old
  pub is : before ≡ get_or old (server - 1) before
  pub changes : Changes before after
  pub others : new ≡ set old (server - 1) after
