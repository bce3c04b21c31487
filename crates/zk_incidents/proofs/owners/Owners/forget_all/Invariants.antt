-- The remaining paths lead from the owners so far to those after all.
use Rattle.std.proofs.Common.{◌≡◌, drop, map}
use Rattle.std.specs.String.{string_bytes}
use Rattle.zk_incidents.specs.Owners.{without_owners}
use Rattle.zk_incidents.proofs.owners.Owners.forget_all.Given as goal

abbrev pub invariant-loop-path : goal.invariant-loop-path
invariant-loop-path l = without_owners l.self (map string_bytes (drop l.path-index l.fn.paths)) ≡ without_owners l.fn.self (map string_bytes l.fn.paths)
