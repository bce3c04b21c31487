-- An input of a host, as `zab_host` and `zk_host` say it.
use Rattle.std.proofs.Common.{◌≡◌, ◌⊎◌, inl, inr, ℕ, List, ◌++◌, Result, Ok, Err, refl, sym, ap, subst}
use Rattle.zab_broadcast.specs.Calls.{Setting}
use Rattle.zab_broadcast.specs.declared.state.State.{State}
use Rattle.zab_epoch.specs.declared.message.Message.{Message}
use Rattle.zab_epoch.specs.declared.stable.Stable.{Stable}
use Rattle.zab_host.specs.declared.fault.HostFault.{HostFault}
use Rattle.zab_host.specs.declared.fault.HostFault.TheVariants as host_faults
use Rattle.zab_host.specs.declared.fault.ReceiveFault.TheVariants as receive_faults
use Rattle.zab_host.specs.Hosts as hosts
use Rattle.zab_host.specs.Hosts.{HostView, Input, StepsTo, IsRejected, acts_of, messages_of, host}
use Rattle.zk_host.specs.declared.replica_host.ReplicaHost.{ReplicaHost}
use Rattle.zk_requests.specs.declared.call.Call.{Call}
use Rattle.zk_peers.specs.Hosts.{StepsBy, KeepsStore, IsUnseen, Takes}

module _ {S : Type 0} (setting : Setting Call) (input : Input Call) (old new : HostView Call S) where
  storage_of : (state : State) (outbox : List (Message Call)) → new ≡ host state outbox old.storage → new.storage ≡ old.storage
  storage_of state outbox is = ap (λ (v : HostView Call S). v.storage) is

  -- the store is as it was
  same_storage : (result : Result (Unit {0}) HostFault) → StepsTo setting old input new result → new.storage ≡ old.storage
  same_storage (Ok x) h = storage_of _ _ h.now
  same_storage (Err host_faults.NoServer) h = storage_of old.state old.outbox h.0
  same_storage (Err host_faults.OutOfOrder) h = storage_of old.state old.outbox h.0
  same_storage (Err host_faults.NotServing) h = storage_of _ _ h.now
  same_storage (Err host_faults.EpochFull) h = storage_of _ _ h.now
  same_storage (Err host_faults.NoMemory) (inl same) = storage_of old.state old.outbox same
  same_storage (Err host_faults.NoMemory) (inr lost) = storage_of _ _ lost.1

  steps_by : (result : Result (Unit {0}) HostFault) → StepsTo setting old input new result → StepsBy setting old input new result
  steps_by (Ok x) h = record { fits = h.fits; state_is = ap (λ (v : HostView Call S). v.state) h.now; outbox_is = ap (λ (v : HostView Call S). v.outbox) h.now }
  steps_by (Err fault) h =
      subst (λ (s : S). StepsTo setting (host old.state old.outbox s) input new (Err fault)) (sym (same_storage (Err fault) h)) h

module _ {S : Type 0} (may_recover : S → Stable → Type 0) (boots : S → ℕ) (setting : Setting Call) (old new : ReplicaHost S) where
  unseen : (new.tree ≡ old.tree) × ((new.shown ≡ old.shown) × (new.tags ≡ old.tags)) → IsUnseen old new
  unseen rest = record { tree = rest.0; shown = rest.1.0; tags = rest.1.1 }

  keeps : new.host.storage ≡ old.host.storage → KeepsStore may_recover boots old.host new.host
  keeps same = record { crash = λ found may. inl (subst (λ (s : S). may_recover s found) same may); starts = ap boots same }

  pub taken : (input : Input Call) (result : Result (Unit {0}) HostFault) → StepsTo setting old.host input new.host result
      → (new.tree ≡ old.tree) × ((new.shown ≡ old.shown) × (new.tags ≡ old.tags)) → Takes may_recover boots setting input old new result
  taken input result steps rest = record {
    steps = steps_by setting input old.host new.host result steps;
    store = keeps (same_storage setting input old.host new.host result steps);
    unseen = unseen rest;
  }

  module _ (message : Message Call)
      (crash : (found : Stable) → may_recover new.host.storage found → may_recover old.host.storage found ⊎ (found ≡ new.host.state.peer.stable))
      (starts : boots new.host.storage ≡ boots old.host.storage)
      (rest : (new.tree ≡ old.tree) × ((new.shown ≡ old.shown) × (new.tags ≡ old.tags))) where
    pub stored : message.addressee ≡ old.host.state.peer.me → new.host.state ≡ (acts_of setting old.host.state (hosts.Receives message)).0
        → new.host.outbox ≡ old.host.outbox ++ messages_of (acts_of setting old.host.state (hosts.Receives message)).1
        → Takes may_recover boots setting (hosts.Receives message) old new (Ok tt)
    stored mine state outbox = record {
      steps = record { fits = mine; state_is = state; outbox_is = outbox };
      store = record { crash = crash; starts = starts };
      unseen = unseen rest;
    }

    pub rejected : (fault : HostFault) → IsRejected may_recover setting old.host (hosts.Receives message) new.host (receive_faults.Host fault)
        → Takes may_recover boots setting (hosts.Receives message) old new (Err fault)
    rejected fault is = record {
      steps = is.0;
      store = record { crash = crash; starts = starts };
      unseen = unseen rest;
    }
