use Rattle.std.proofs.Common.{◌≡◌, false, rules}
use Rattle.std.specs.Str.{bytes_eq}
use Rattle.std.specs.String.{string_bytes}
use Rattle.zk_tree_changes.proofs.Lining.{both_lines}
use Rattle.zk_tree_changes.specs.Changes.{stamp_at}
use Rattle.zk_tree_changes.proofs.change.push_changed.Goals as goal

pub returns : goal.returns
returns c =
    let other : bytes_eq c.args.before.now c.args.after.now ≡ false = search rules in
    both_lines (stamp_at c.args.changes.now) c.push_line-2.result c.args.path.now c.args.before.now c.args.after.now (string_bytes c.args.text.now) (string_bytes c.push_line.new.text) (string_bytes c.push_line-2.new.text)
    other c.in_ok-push_line.ensures c.push_line-2.ensures
