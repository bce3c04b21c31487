-- The paths so far, and the remaining ones.
use Rattle.std.proofs.Common.{◌≡◌, ◌++◌, drop, map}
use Rattle.zk_session_commands.proofs.touched_nodes.texts_of.Given as goal

abbrev pub invariant-loop-path : goal.invariant-loop-path
invariant-loop-path l = map (λ text. text.now) l.texts.items ++ drop l.path-index l.fn.paths ≡ l.fn.paths
