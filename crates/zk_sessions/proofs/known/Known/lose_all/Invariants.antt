-- The remaining paths lead from what is known so far to what is known after all.
use Rattle.std.proofs.Common.{◌≡◌, drop, map}
use Rattle.std.specs.String.{string_bytes}
use Rattle.zk_sessions.specs.Known.{all_gone}
use Rattle.zk_sessions.proofs.known.Known.lose_all.Given as goal

abbrev pub invariant-loop-path : goal.invariant-loop-path
invariant-loop-path l = all_gone l.self (map string_bytes (drop l.path-index l.fn.paths)) ≡ all_gone l.fn.self (map string_bytes l.fn.paths)
