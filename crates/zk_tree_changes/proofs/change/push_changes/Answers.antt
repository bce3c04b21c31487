use Rattle.std.specs.String.{string_bytes}
use Rattle.zk_tree_changes.proofs.Lining.{next_lines}
use Rattle.zk_tree_changes.specs.Changes.{stamp_at}
use Rattle.zk_tree_changes.specs.Differences.{lines_at}
use Rattle.zk_incidents.specs.Within.{is_within}
use Rattle.zk_tree_changes.proofs.change.push_changes.Goals as goal

pub loop-path-preserved : goal.loop-path-preserved
loop-path-preserved c = λ new more.
    c.loop-path.invariant new
    (next_lines (stamp_at c.args.changes.now) (lines_at c.args.old.now c.args.new.now) (is_within (string_bytes c.args.scope.now.root) c.args.scope.now.below) c.args.paths.now c.loop-path.path-index _ _ (string_bytes c.push_covered.new.text) new
    c.loop-path-test.true c.in_ok-push_covered.ensures more)
