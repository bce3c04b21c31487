-- The state that a machine's table holds.
use Rattle.zk_table.specs.States.{State}
use Rattle.zk_machine.specs.declared.table.Table.{Table}

abbrev pub state_of : Table → State
state_of table = record { nodes = table.nodes.tree; sessions = table.sessions; last = table.last }
