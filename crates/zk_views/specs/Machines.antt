-- The machine beside a list of transactions. Own.
use Rattle.std.specs.Prelude.{◌≡◌, ℤ, false, List, Option, IfSome}
use Rattle.zk_machine.specs.Machines.{MachineView}
use Rattle.zk_table.specs.Histories.{tree_of}
use Rattle.zk_table.specs.declared.txn.Txn.{Txn}

-- a machine that has not failed, in the state of the list
pub record IsMachineOf (txns : List Txn) (machine : MachineView) : Type 0 where
  pub state : machine.state ≡ tree_of txns
  pub runs : machine.failed ≡ false

-- the zxid beside a list is its last, and the machine, if there is one, is the list's
pub record IsKeptBeside (txns : List Txn) (last : ℤ) (machine : Option MachineView) : Type 0 where
  pub is_last : last ≡ (tree_of txns).last
  pub is_of_list : IfSome machine (IsMachineOf txns)
