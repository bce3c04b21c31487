use Rattle.std.proofs.Common.{rules}
use Rattle.std.specs.String.{string_bytes}
use Rattle.zk_json.specs.Objects.{value_of}
use Rattle.zk_json_commands.proofs.LostLines.{recorded}
use Rattle.zk_json_commands.proofs.lost_lines.push_record.Goals as goal

pub returns : goal.returns
returns c =
    recorded c.push_object_line.result c.args.zxid (value_of c.args.time) (value_of c.args.session) (value_of c.args.path) (string_bytes c.args.text.now) (string_bytes c.push_object_line.new.text) _
    c.push_object_line.ensures (search rules)
