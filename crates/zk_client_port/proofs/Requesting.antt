-- A host takes a request with its next tag, or rejects it.
use Rattle.std.proofs.Common.{◌≡◌, ◌≢◌, ◌∙◌, ℕ, ◌+◌, Bool, Some, None, Result, Ok, Err, subst}
use Rattle.zab_broadcast.specs.Calls.{Setting}
use Rattle.zab_host.specs.Hosts.{HostView, Input, StepsTo}
use Rattle.zab_host.specs.declared.fault.HostFault.{HostFault}
use Rattle.zab_host.specs.declared.fault.HostFault.TheVariants as host_faults
use Rattle.zk_client_port.specs.Execution.{next_tag, tag_after, AsksTo, ByHost, Executes, Requests, RequestsTo, Served, Steps}
use Rattle.zk_client_port.specs.declared.expected.Expected.{Expected}
use Rattle.zk_client_port.specs.declared.fault.ServeFault.{ServeFault}
use Rattle.zk_client_port.specs.declared.fault.ServeFault.TheVariants as faults
use Rattle.zk_host.specs.declared.replica_host.ReplicaHost.{ReplicaHost}
use Rattle.zk_requests.specs.declared.call.Call.{Call}

module _ {S : Type 0} (setting : Setting Call) (input : ℕ → Input Call) (old between new : ReplicaHost S) (tag : ℕ)
    (issued : tag ≡ next_tag old.tags) (counted : between.tags ≡ record old.tags { used = old.tags.used + 1 })
    (kept : (between.host ≡ old.host) × ((between.tree ≡ old.tree) × (between.shown ≡ old.shown)))
    (rest : (new.tree ≡ between.tree) × ((new.shown ≡ between.shown) × (new.tags ≡ between.tags))) where
  steps_with : (result : Result (Unit {0}) HostFault) → StepsTo setting between.host (input tag) new.host result → Steps setting (input tag) old new result
  steps_with result stepped = record {
    steps = subst (λ (it : HostView Call S). StepsTo setting it (input tag) new.host result) kept.0 stepped;
    counted = rest.1.1 ∙ counted;
    tree = rest.0 ∙ kept.1.0;
    shown = rest.1.0 ∙ kept.1.1;
  }

  pub accepted : StepsTo setting between.host (input tag) new.host (Ok tt) → Requests setting input old new (Some tag)
  accepted stepped = (issued, steps_with (Ok tt) stepped)

  failed : (fault : HostFault) → StepsTo setting between.host (input tag) new.host (Err fault) → Steps setting (input (next_tag old.tags)) old new (Err fault)
  failed fault stepped = subst (λ (it : ℕ). Steps setting (input it) old new (Err fault)) issued (steps_with (Err fault) stepped)

  rejected : (fault : HostFault) → fault ≢ host_faults.NoMemory → StepsTo setting between.host (input tag) new.host (Err fault) → Requests setting input old new None
  rejected fault why stepped = ByHost fault why (failed fault stepped)

  pub requested : (stepped : Result (Unit {0}) HostFault) → StepsTo setting between.host (input tag) new.host stepped → RequestsTo setting input old new (tag_after tag stepped)
  requested (Ok _) steps = accepted steps
  requested (Err host_faults.NoServer) steps = rejected host_faults.NoServer (λ is. absurd cc) steps
  requested (Err host_faults.NotServing) steps = rejected host_faults.NotServing (λ is. absurd cc) steps
  requested (Err host_faults.EpochFull) steps = rejected host_faults.EpochFull (λ is. absurd cc) steps
  requested (Err host_faults.OutOfOrder) steps = rejected host_faults.OutOfOrder (λ is. absurd cc) steps
  requested (Err host_faults.NoMemory) steps = failed host_faults.NoMemory steps

-- what a connection asks becomes an outstanding request
pub asks : {S : Type 0} (setting : Setting Call) (input : ℕ → Input Call) (expected : Expected) (old new : Served S) (result : Result Bool ServeFault)
    → Executes setting input expected old new result → AsksTo setting input expected old new result
asks setting input expected old new (Ok ready) executes = executes
asks setting input expected old new (Err faults.Connection) executes = executes
asks setting input expected old new (Err faults.Host) executes = absurd executes.pushes
