use Rattle.std.proofs.Common.{ap, ◌∙◌, map, rules}
use Rattle.std.specs.String.{string_bytes}
use Rattle.zk_tree.specs.Entries.{lent}
use Rattle.zk_json_commands.proofs.StateLines.{tree_ended}
use Rattle.zk_json_commands.proofs.state_lines.push_tree.Goals as goal

pub returns : goal.returns
returns c =
    tree_ended c.push_entries.result c.args.table.now.state _ c.as_slice.result.now c.as_slice-2.result.now (string_bytes c.args.text.now) (string_bytes c.push_zxid.new.text) (string_bytes c.push_sessions.new.text) (string_bytes c.push_entries.new.text)
    (c.as_slice.ensures.value ∙ c.in_ok-sessions.ensures) (ap (map lent) c.as_slice-2.ensures.value ∙ c.in_ok-entries.ensures) c.in_ok-push_zxid.ensures c.in_ok-push_sessions.ensures c.push_entries.ensures (search rules)
