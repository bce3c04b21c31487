use Rattle.std.specs.String.{string_bytes}
use Rattle.zk_json_commands.proofs.Differing.{next_paths}
use Rattle.zk_json_commands.proofs.difference_lines.push_paths.Goals as goal

pub loop-path-preserved : goal.loop-path-preserved
loop-path-preserved c = λ new more.
    c.loop-path.invariant new
    (next_paths (string_bytes c.args.scope.now.root) c.args.scope.now.below c.args.changes.now c.args.old.now c.args.new.now c.args.paths.now c.loop-path.path-index _ _ (string_bytes c.push_path.new.text) new
    c.loop-path-test.true c.in_ok-push_path.ensures more)
