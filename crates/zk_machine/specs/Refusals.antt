-- Why a machine does not undo a transaction, and its state afterwards.
use Rattle.std.specs.Prelude.{◌≡◌, ◌≢◌, true, false, Option, Some, None}
use Rattle.zk_machine.specs.declared.fault.MachineFault.{MachineFault}
use Rattle.zk_machine.specs.declared.fault.MachineFault.TheVariants.{NoMemory, Failed, NotLast}
use Rattle.zk_machine.specs.declared.fault.UndoFault.{UndoFault}
use Rattle.zk_machine.specs.Machines.{MachineView}
use Rattle.zk_machine.specs.Undoing.{Undoing}

-- an allocation failed in a running machine with the record of its last step; or the machine had
-- failed; or it runs, and the record's step is not its last one
abbrev pub IsUndoRefusedFor : MachineFault → MachineView → MachineView → Undoing → Option Undoing → Type 0
IsUndoRefusedFor NoMemory before after undo back =
    (before.failed ≡ false) × (undo.step ≡ before.steps) × (after.failed ≡ true) × (after.steps ≡ before.steps) × (back ≡ None)
IsUndoRefusedFor Failed before after undo back = (before.failed ≡ true) × (after ≡ before) × (back ≡ Some undo)
IsUndoRefusedFor NotLast before after undo back = (before.failed ≡ false) × (undo.step ≢ before.steps) × (after ≡ before) × (back ≡ Some undo)

abbrev pub IsUndoRefusal : MachineView → MachineView → Undoing → UndoFault → Type 0
IsUndoRefusal before after undo refusal = IsUndoRefusedFor refusal.fault before after undo refusal.undo
