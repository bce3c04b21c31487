use Rattle.std.proofs.lemmas.Result.{on_ok_weaker}
use Rattle.std.specs.String.{string_bytes}
use Rattle.zk_tree_changes.proofs.Appending.{two_appended}
use Rattle.zk_tree_changes.proofs.node.push_unread.Goals as goal

pub returns : goal.returns
returns c = on_ok_weaker c.push_without_content.result (two_appended (string_bytes c.args.text.now) (string_bytes c.push_note.new.text) (string_bytes c.push_without_content.new.text) _ _ c.in_ok-push_note.ensures) c.push_without_content.ensures
