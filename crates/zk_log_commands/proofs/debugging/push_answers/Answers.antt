use Rattle.std.specs.String.{string_bytes}
use Rattle.zk_log_commands.specs.Debugs.{state_of_base}
use Rattle.zk_log_commands.proofs.TextLaws.{from_start}
use Rattle.zk_log_commands.proofs.debugging.push_answers.Goals as goal

pub returns : goal.returns
returns c =
    from_start (state_of_base c.args.base) c.args.txns c.args.script.now (string_bytes c.args.answers.now) (string_bytes c.run_script-ran.new.answers) c.in-Ok.debugger c.run_script-ran.new.debugger c.run_script-ran.result c.in-Ok.ensures c.run_script-ran.ensures
