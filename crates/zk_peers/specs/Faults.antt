-- The errors of peers, by those of hosts.
use Rattle.zab_host.specs.declared.fault.HostFault.{HostFault}
use Rattle.zab_host.specs.declared.fault.HostFault.TheVariants as host_faults
use Rattle.zk_peers.specs.declared.fault.PeersFault.{PeersFault}
use Rattle.zk_peers.specs.declared.fault.PeersFault.TheVariants as faults

abbrev pub host_fault : HostFault → PeersFault
host_fault host_faults.NoMemory = faults.NoMemory
host_fault fault = faults.Host fault
