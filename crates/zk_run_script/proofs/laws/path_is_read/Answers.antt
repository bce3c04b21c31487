use Rattle.std.proofs.Common.{rules}
use Rattle.zk_path.proofs.FaultLaw.{IsPath-from_fault}
use Rattle.zk_run_script.proofs.laws.path_is_read.Goals as goal

pub returns : goal.returns
returns c = record { utf8 = search rules; is_path = IsPath-from_fault _ c.text-text.ensures.is_path }
