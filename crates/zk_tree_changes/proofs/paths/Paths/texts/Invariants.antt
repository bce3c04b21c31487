-- The texts so far, and the remaining ones.
use Rattle.std.proofs.Common.{◌≡◌, ◌++◌, map}
use Rattle.zk_tree_changes.specs.Differences.{texts_of}
use Rattle.zk_incidents.proofs.Texts.{shown}
use Rattle.zk_tree_changes.proofs.paths.Paths.texts.Given as goal

abbrev pub invariant-loop-path : goal.invariant-loop-path
invariant-loop-path l = map (λ text. text.now) l.texts.items ++ texts_of (map shown l.path-iterator) ≡ texts_of (map shown l.initial.path-iterator)
