-- A rule's errors, as those of a world.
use Rattle.zab_epoch.specs.declared.rule_fault.RuleFault.{RuleFault}
use Rattle.zab_epoch.specs.declared.rule_fault.RuleFault.TheVariants as rule
use Rattle.zab_model.specs.declared.fault.WorldFault.{WorldFault}
use Rattle.zab_model.specs.declared.fault.WorldFault.TheVariants as faults

abbrev pub world_fault_of : RuleFault → WorldFault
world_fault_of rule.NotServing = faults.NotServing
world_fault_of rule.EpochFull = faults.EpochFull
world_fault_of rule.NoMemory = faults.NoMemory
