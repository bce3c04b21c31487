use Rattle.std.proofs.Common.{sym}
use Rattle.zk_path.proofs.FaultLaw.{IsPath-from_fault, fault_of-IsPath}
use Rattle.zk_path.proofs.path.Path.read.Goals as goal

pub returns-in_err-check_path-clause-only : goal.returns-in_err-check_path-clause-only
returns-in_err-check_path-clause-only c =
    λ is_path. absurd (cc (fault_of-IsPath c.args.text.now is_path, c.in_err-check_path.ensures))

pub returns-clause-is_path : goal.returns-clause-is_path
returns-clause-is_path c = IsPath-from_fault c.args.text.now (sym c.in_ok-check_path.ensures)
