use Rattle.zk_mend.proofs.OldLogs.{old_logs_come_back}
use Rattle.zk_mend.proofs.laws.old_logs_come_back.Goals as goal

pub returns : goal.returns
returns c = old_logs_come_back
