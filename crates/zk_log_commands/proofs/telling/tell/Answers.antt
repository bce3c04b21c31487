use Rattle.std.proofs.Common.{rules}
use Rattle.zk_log_commands.proofs.telling.tell.Goals as goal

pub returns : goal.returns
returns g c = search rules
