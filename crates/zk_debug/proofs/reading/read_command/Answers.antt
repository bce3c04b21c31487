use Rattle.zk_debug.proofs.Commands.{reads_command}
use Rattle.zk_debug.proofs.reading.read_command.Goals as goal

pub returns : goal.returns
returns c = reads_command c.args.line.now c.command_of.result c.command_of.ensures
