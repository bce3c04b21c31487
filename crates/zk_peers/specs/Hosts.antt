-- What inputs do at a server's host, as `zab_host` and `zk_host` say.
use Rattle.std.specs.Prelude.{◌≡◌, ◌≢◌, ◌⊎◌, ℕ, ◌+◌, ◌==◌, List, [], ◌∷◌, ◌++◌, Result, Ok, Err, if◌then◌else◌}
use Rattle.zab_broadcast.specs.Calls.{Setting}
use Rattle.zab_broadcast.specs.Rules.{restored}
use Rattle.zab_epoch.specs.declared.message.Message.{Message}
use Rattle.zab_epoch.specs.declared.stable.Stable.{Stable}
use Rattle.zab_host.specs.declared.fault.HostFault.{HostFault}
use Rattle.zab_host.specs.declared.fault.HostFault.TheVariants as host_faults
use Rattle.zab_host.specs.Durability.{IsDurable}
use Rattle.zab_host.specs.Hosts as hosts
use Rattle.zab_host.specs.Hosts.{HostView, Input, IsFor, StepsTo, acts_of, messages_of, host}
use Rattle.zab_epoch.specs.Quorums.{is_majority}
use Rattle.zk_host.specs.declared.replica_host.ReplicaHost.{ReplicaHost}
use Rattle.zk_host.specs.WatchedTrees.{new_tree}
use Rattle.zk_model.specs.Ensembles.{profile_by}
use Rattle.zk_requests.specs.declared.call.Call.{Call}

-- majorities of `n` servers are the quorums
abbrev pub setting_for : ℕ → Setting Call
setting_for servers = (profile_by (is_majority servers)).setting

-- ---- one input

-- the host's server has taken an input by Zab's rule
pub record Acts {S : Type 0} (setting : Setting Call) (old : HostView Call S) (input : Input Call) (new : HostView Call S) : Type 0 where
  pub fits : IsFor old.state input
  pub state_is : new.state ≡ (acts_of setting old.state input).0
  pub outbox_is : new.outbox ≡ old.outbox ++ messages_of (acts_of setting old.state input).1

-- the host after an input, for each result; a message of discovery or synchronization may change
-- its store
abbrev pub StepsBy : {S : Type 0} → Setting Call → HostView Call S → Input Call → HostView Call S → Result (Unit {0}) HostFault → Type 0
StepsBy setting old input new (Ok x) = Acts setting old input new
StepsBy setting old input new (Err fault) =
    StepsTo setting (host old.state old.outbox new.storage) input new (Err fault)

-- A crash recovers what it could recover before, or all that the server has.
pub record KeepsStore {S : Type 0} (may_recover : S → Stable → Type 0) (boots : S → ℕ) (old new : HostView Call S) : Type 0 where
  pub crash : (found : Stable) → may_recover new.storage found
      → may_recover old.storage found ⊎ (found ≡ new.state.peer.stable)
  pub starts : boots new.storage ≡ boots old.storage

-- no client sees the input
pub record IsUnseen {S : Type 0} (old new : ReplicaHost S) : Type 0 where
  pub tree : new.tree ≡ old.tree
  pub shown : new.shown ≡ old.shown
  pub tags : new.tags ≡ old.tags

pub record Takes {S : Type 0} (may_recover : S → Stable → Type 0) (boots : S → ℕ) (setting : Setting Call) (input : Input Call) (old new : ReplicaHost S) (result : Result (Unit {0}) HostFault) : Type 0 where
  pub steps : StepsBy setting old.host input new.host result
  pub store : KeepsStore may_recover boots old.host new.host
  pub unseen : IsUnseen old new

-- ---- messages

-- A message is taken, or rejected by its rule. No allocation has failed.
pub record Hears {S : Type 0} (may_recover : S → Stable → Type 0) (boots : S → ℕ) (setting : Setting Call) (message : Message Call) (old new : ReplicaHost S) : Type 0 where
  pub result : Result (Unit {0}) HostFault
  pub memory : result ≢ Err host_faults.NoMemory
  pub takes : Takes may_recover boots setting (hosts.Receives message) old new result

-- messages in order
abbrev pub HearsAll : {S : Type 0} → (S → Stable → Type 0) → (S → ℕ) → Setting Call → List (Message Call) → ReplicaHost S → ReplicaHost S → Type 0
HearsAll {S} may_recover boots setting [] old new = new ≡ old
HearsAll {S} may_recover boots setting (message ∷ messages) old new =
    (between : ReplicaHost S) × Hears may_recover boots setting message old between
    × HearsAll may_recover boots setting messages between new

-- ---- an election's result

-- the leader leads, and each other server follows it
abbrev pub role_input : ℕ → ℕ → Input Call
role_input server leader = if server == leader then hosts.Leads else hosts.Follows leader

-- ---- a start

-- a host has started on what its store recovers if it is clean, with an empty tree
pub record HasStarted {S : Type 0} (clean : S → Type 0) (may_recover : S → Stable → Type 0) (boots : S → ℕ) (servers me : ℕ) (storage : S) (it : ReplicaHost S) : Type 0 where
  pub stable : Stable
  pub found : clean it.host.storage → may_recover storage stable
  pub state : it.host.state ≡ restored servers me stable
  pub outbox : it.host.outbox ≡ []
  pub durable : IsDurable stable (may_recover it.host.storage)
  pub tree : it.tree ≡ new_tree
  pub shown : it.shown ≡ 0
  pub tags : (it.tags.host ≡ me) × ((it.tags.boot ≡ boots storage + 1) × (it.tags.used ≡ 0))
  pub starts : boots it.host.storage ≡ boots storage + 1
