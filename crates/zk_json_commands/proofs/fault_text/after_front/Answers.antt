use Rattle.zk_json_commands.proofs.Words.{fronted}
use Rattle.zk_json_commands.proofs.fault_text.after_front.Goals as goal

pub returns : goal.returns
returns c = fronted _ c.args.front.now c.args.text.now c.strip_prefix.result c.strip_prefix.ensures.cases
