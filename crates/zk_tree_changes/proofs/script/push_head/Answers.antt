use Rattle.std.proofs.Common.{ℤ, w64, ◌++◌, ap, ◌∙◌}
use Rattle.std.proofs.lemmas.Int.{to_z-of_z}
use Rattle.std.proofs.lemmas.Result.{on_ok_weaker}
use Rattle.std.specs.String.{string_bytes}
use Rattle.zk_tree_changes.proofs.Appending.{four_appended}
use Rattle.zk_tree_changes.specs.Scripts.{moment, premises_line, title, use_line}
use Rattle.zk_tree_changes.proofs.script.push_head.Goals as goal

pub returns : goal.returns
returns c =
    on_ok_weaker c.push_premises.result
    (four_appended (string_bytes c.args.text.now) (string_bytes c.push_title.new.text) (string_bytes c.push_moment.new.text) (string_bytes c.push_use.new.text) (string_bytes c.push_premises.new.text)
    (title c.args.path.now) (moment c.args.zxid) use_line premises_line c.in_ok-push_title.ensures (c.in_ok-push_moment.ensures ∙ ap (λ (z : ℤ). string_bytes c.push_title.new.text ++ moment z) (to_z-of_z w64 c.args.zxid c.ranges.zxid)) c.in_ok-push_use.ensures)
    c.push_premises.ensures
