-- The fault of the reader for each fault of a record.
use Rattle.zk_jute.specs.declared.fault.JuteFault.{JuteFault}
use Rattle.zk_jute.specs.declared.fault.JuteFault.TheVariants as faults
use Rattle.zk_newer_records.specs.declared.fault.NewerFault.{NewerFault}
use Rattle.zk_newer_records.specs.declared.fault.NewerFault.TheVariants as newer_faults

abbrev pub fault_of_record : JuteFault → NewerFault
fault_of_record faults.NoMemory = newer_faults.NoMemory
fault_of_record fault = newer_faults.Record
