-- The entries so far.
use Rattle.std.proofs.Common.{take}
use Rattle.std.specs.List.{AllByRecursion}
use Rattle.zk_format.specs.Listings.{IsListedAcl}
use Rattle.zk_run_script.proofs.laws.acls_are_read.Given as goal

abbrev pub invariant-loop-entry : goal.invariant-loop-entry
invariant-loop-entry l = AllByRecursion IsListedAcl (take l.entry-index l.entries)
