use Rattle.std.proofs.Common.{rules}
use Rattle.std.specs.String.{string_bytes}
use Rattle.json.specs.Json.{string}
use Rattle.zk_json.specs.Objects.{value_of}
use Rattle.zk_json_commands.proofs.LostLines.{placed}
use Rattle.zk_json_commands.proofs.lost_lines.push_lost_of.Goals as goal

pub returns : goal.returns
returns c =
    placed c.push_object_line.result c.args.name.now c.args.stop.now c.args.at c.args.to (value_of c.args.from) (value_of c.args.before) c.args.next (string c.args.after.now) (string_bytes c.args.text.now) (string_bytes c.push_object_line.new.text) _ _ _
    c.push_object_line.ensures (search rules) (search rules) (search rules)
