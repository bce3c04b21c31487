use Rattle.zk_run_script.proofs.CommandTexts.{reads_command}
use Rattle.zk_run_script.proofs.command_reading.read_command.Goals as goal

pub returns : goal.returns
returns c =
    rw c.among.ensures (reads_command c.args.servers c.args.line.now c.command-read.new.input.now c.command-read.result c.command-read.ensures)
