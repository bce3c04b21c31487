use Rattle.std.proofs.Common.{rules}
use Rattle.std.specs.String.{string_bytes}
use Rattle.zk_json_commands.proofs.LostLines.{gap_told}
use Rattle.zk_json_commands.proofs.lost_lines.push_gap.Goals as goal

pub returns : goal.returns
returns c =
    gap_told c.push_missing.result c.args.before c.args.after.now _ _ _ _ _ (string_bytes c.args.text.now) (string_bytes c.push_missing.new.text)
    c.in_ok-time.ensures c.text_by.ensures c.in_ok-next.ensures c.as_str.ensures.value c.push_missing.ensures (search rules)
