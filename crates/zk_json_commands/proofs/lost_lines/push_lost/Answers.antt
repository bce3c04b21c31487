use Rattle.std.proofs.Common.{rules}
use Rattle.std.specs.String.{string_bytes}
use Rattle.zk_json_commands.proofs.LostLines.{lost_told}
use Rattle.zk_json_commands.proofs.lost_lines.push_lost.Goals as goal

pub returns : goal.returns
returns c =
    lost_told c.push_place.result c.args.damage.now _ _ _ _ _ (string_bytes c.args.text.now) (string_bytes c.push_place.new.text)
    c.in_ok-before.ensures c.text_by.ensures c.in_ok-after.ensures c.as_str-2.ensures.value c.push_place.ensures (search rules)
