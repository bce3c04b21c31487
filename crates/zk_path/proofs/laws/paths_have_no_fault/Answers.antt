use Rattle.zk_path.proofs.FaultLaw.{IsPath-from_fault, fault_of-IsPath, IsName-from_fault, name_fault-IsName}
use Rattle.zk_path.proofs.laws.paths_have_no_fault.Goals as goal

pub returns-clause-paths : goal.returns-clause-paths
returns-clause-paths c = λ text. (IsPath-from_fault text, fault_of-IsPath text)

pub returns-clause-names : goal.returns-clause-names
returns-clause-names c = λ name whole. (IsName-from_fault name whole, name_fault-IsName name)
