-- The copies so far, and the remaining paths.
use Rattle.std.proofs.Common.{◌≡◌, ◌++◌, drop, map}
use Rattle.std.specs.String.{string_bytes}
use Rattle.zk_sessions.proofs.ephemerals.copies_of.Given as goal

abbrev pub invariant-loop-path : goal.invariant-loop-path
invariant-loop-path l = map string_bytes l.copies.items ++ drop l.path-index l.fn.paths ≡ l.fn.paths
