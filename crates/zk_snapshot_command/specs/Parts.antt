-- How the writing of bytes, a part at a time, ended.
use Rattle.std.specs.Prelude.{ℕ, List, Option, Result, Ok, Err}
use Rattle.zk_log_commands.specs.Writing.{BrokeOff, Wrote, WrotePart}
use Rattle.zk_records.specs.declared.sink.Sink.{Sink}
use Rattle.zk_snapshot_command.specs.declared.part_fault.PartFault.{PartFault}
use Rattle.zk_snapshot_command.specs.declared.part_fault.PartFault.TheVariants as faults

abbrev pub Puts : {W : Type 0} → (W → Option (List ℕ)) → Sink W → List ℕ → Result (Unit {0}) PartFault → Sink W → Type 0
Puts contents old bytes (Ok done) new = Wrote contents old new bytes
Puts contents old bytes (Err faults.Write) new = BrokeOff contents old new bytes
Puts contents old bytes (Err faults.NoMemory) new = WrotePart contents old new bytes
