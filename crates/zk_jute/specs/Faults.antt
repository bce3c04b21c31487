-- The fault of a record's reader for each fault of a path.
use Rattle.zk_jute.specs.declared.fault.JuteFault.{JuteFault}
use Rattle.zk_jute.specs.declared.fault.JuteFault.TheVariants as faults
use Rattle.zk_path.specs.declared.fault.PathFault.{PathFault}
use Rattle.zk_path.specs.declared.fault.PathFault.TheVariants as paths

abbrev pub fault_of_path : PathFault → JuteFault
fault_of_path paths.NoMemory = faults.NoMemory
fault_of_path fault = faults.Path
