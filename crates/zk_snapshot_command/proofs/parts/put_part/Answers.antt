use Rattle.std.proofs.Common.{take}
use Rattle.zk_log_commands.proofs.LinesLaws.{part_of_none}
use Rattle.zk_snapshot_command.proofs.parts.put_part.Goals as goal

pub returns-then-is_err-clause-written : goal.returns-then-is_err-clause-written
returns-then-is_err-clause-written g c = part_of_none g.O.Write.contents c.args.output.now (take 65536 c.args.writer.now)
