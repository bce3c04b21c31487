use Rattle.std.proofs.Common.{◌≡◌, ◌++◌, Option, rules, subst}
use Rattle.std.specs.String.{string_bytes}
use Rattle.zk_tree_changes.proofs.Lining.{one_line}
use Rattle.zk_tree_changes.specs.Changes.{stamp_at}
use Rattle.zk_tree_changes.specs.Differences.{line_of}
use Rattle.zk_tree_changes.specs.Texts.{AppendsStamp, sign_text}
use Rattle.zk_tree_changes.specs.declared.stamps.Stamp.{Stamp}
use Rattle.zk_tree_changes.proofs.change.push_line.Goals as goal

pub returns : goal.returns
returns c =
    let one = string_bytes c.push_str.new.self in
    let two = string_bytes c.push_stamp.new.text in
    let first : one ≡ string_bytes c.args.text.now ++ sign_text c.args.sign = search rules in
    let last : string_bytes c.push_str-2.new.self ≡ two ++ c.args.node.now = search rules in
    one_line (stamp_at c.args.changes.now) (line_of c.args.sign c.args.path.now c.args.node.now) (string_bytes c.args.text.now) one two (string_bytes c.push_str-2.new.self)
    first (subst (λ (s : Option Stamp). AppendsStamp s one two) c.stamp_at.ensures c.in_ok-push_stamp.ensures) last
