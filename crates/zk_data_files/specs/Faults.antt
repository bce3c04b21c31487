-- The errors of a data directory, by those of a server's store.
use Rattle.std.specs.Prelude.{ℕ}
use Rattle.zk_data_files.specs.declared.data_fault.DataFault.{DataFault}
use Rattle.zk_data_files.specs.declared.data_fault.DataFault.TheVariants as faults
use Rattle.zk_data_files.specs.declared.open_fault.OpenFault.{OpenFault}
use Rattle.zk_data_files.specs.declared.open_fault.OpenFault.TheVariants as open_faults

abbrev pub fault_of : ℕ → OpenFault → DataFault
fault_of server open_faults.NoMemory = faults.NoMemory
fault_of server open_faults.Disk = faults.Store server
fault_of server open_faults.NoBook = faults.NoBook server
fault_of server open_faults.DamagedBook = faults.Book server
fault_of server open_faults.Damaged = faults.Log server
