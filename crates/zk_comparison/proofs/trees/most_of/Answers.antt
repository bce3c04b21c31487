use Rattle.std.proofs.Common.{◌≤◌, length, sym, arith}
use Rattle.std.proofs.lemmas.List.{length-take-le, take_all}
use Rattle.zk_comparison.proofs.trees.most_of.Goals as goal

pub slice_bounds-result-end : goal.slice_bounds-result-end
slice_bounds-result-end c =
    let long : 1000 ≤ length c.args.paths.now = omega (arith, c.if-paths-le-MOST_DIFFERING.false) in
    sym (length-take-le 1000 c.args.paths.now long)

pub returns-then-paths-le-MOST_DIFFERING : goal.returns-then-paths-le-MOST_DIFFERING
returns-then-paths-le-MOST_DIFFERING c = sym (take_all 1000 c.args.paths.now c.if-paths-le-MOST_DIFFERING.true)
