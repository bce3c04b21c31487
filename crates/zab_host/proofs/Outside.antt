-- Inputs that have no rule at a host.
use Rattle.std.proofs.Common.{Err, refl}
use Rattle.zab_broadcast.specs.Calls.{Setting}
use Rattle.zab_host.specs.declared.fault.HostFault.{HostFault}
use Rattle.zab_host.specs.declared.fault.HostFault.TheVariants as faults
use Rattle.zab_host.specs.Hosts.{HostView, Input, IsOutside, StepsTo}

module _ {C S : Type 0} (setting : Setting C) (old : HostView C S) (input : Input C) where
  pub rejected : (fault : HostFault) → IsOutside old.state input fault → StepsTo setting old input old (Err fault)
  rejected faults.NoServer outside = (refl, outside)
  rejected faults.OutOfOrder outside = (refl, outside)
  rejected faults.NotServing outside = absurd outside
  rejected faults.EpochFull outside = absurd outside
  rejected faults.NoMemory outside = absurd outside
