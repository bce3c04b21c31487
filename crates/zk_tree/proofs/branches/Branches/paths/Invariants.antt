use Rattle.std.proofs.Common.{◌≡◌, map, take}
use Rattle.zk_tree.proofs.branches.Branches.paths.Given as goal

-- the paths of the entries so far
abbrev pub invariant-loop-entry : goal.invariant-loop-entry
invariant-loop-entry l = l.paths.items ≡ map (λ e. e.path.now) (take l.entry-index l.entry-items)
