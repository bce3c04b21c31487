-- A world's errors, as those of an ensemble.
use Rattle.zab_model.specs.declared.fault.WorldFault.{WorldFault}
use Rattle.zab_model.specs.declared.fault.WorldFault.TheVariants as world
use Rattle.zk_model.specs.declared.fault.EnsembleFault.{EnsembleFault}
use Rattle.zk_model.specs.declared.fault.EnsembleFault.TheVariants as faults

abbrev pub ensemble_fault_of : WorldFault → EnsembleFault
ensemble_fault_of world.NoServer = faults.NoServer
ensemble_fault_of world.NoMessage = faults.NoMessage
ensemble_fault_of world.Down = faults.Down
ensemble_fault_of world.NotDown = faults.NotDown
ensemble_fault_of world.NotServing = faults.NotServing
ensemble_fault_of world.DuplicateCall = faults.DuplicateCall
ensemble_fault_of world.EpochFull = faults.EpochFull
ensemble_fault_of world.NoMemory = faults.NoMemory
ensemble_fault_of (world.Died number) = faults.Died number
