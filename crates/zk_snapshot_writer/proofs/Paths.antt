-- The text of a path.
use Rattle.std.proofs.Common.{◌≡◌, ℕ, List, None}
use Rattle.zk_path.proofs.FaultLaw.{IsPath-from_fault}
use Rattle.zk_path.specs.Paths.{fault_of}
use Rattle.zk_records.specs.Records.{IsPathText, IsText}

pub path_text : (path : List ℕ) → fault_of path ≡ None → IsText path → IsPathText path
path_text path none is = record { grammar = IsPath-from_fault path none; text = is }
