use Rattle.zk_commands.proofs.ScriptLaws.{sessions_answer_scripts}
use Rattle.zk_commands.proofs.laws.sessions_answer_scripts.Goals as goal

pub returns : goal.returns
returns c = sessions_answer_scripts
