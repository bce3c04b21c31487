use Rattle.std.proofs.Common.{rules}
use Rattle.std.specs.String.{string_bytes}
use Rattle.json.specs.Json.{string}
use Rattle.zk_json.specs.Objects.{value_of}
use Rattle.zk_json_commands.proofs.LostLines.{missed}
use Rattle.zk_json_commands.proofs.lost_lines.push_missing.Goals as goal

pub returns : goal.returns
returns c =
    missed c.push_object_line.result c.args.before (value_of c.args.time) c.args.after.now (string c.args.next.now) (string_bytes c.args.text.now) (string_bytes c.push_object_line.new.text) _ _
    c.push_object_line.ensures (search rules) (search rules)
