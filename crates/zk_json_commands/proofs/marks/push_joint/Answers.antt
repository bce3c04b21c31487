use Rattle.std.proofs.Common.{rules}
use Rattle.std.specs.String.{string_bytes}
use Rattle.zk_json_commands.proofs.WrittenReports.{joined}
use Rattle.zk_json_commands.proofs.marks.push_joint.Goals as goal

pub returns : goal.returns
returns c =
    joined c.push_object_line.result c.args.joint.now c.args.is_missing (string_bytes c.args.text.now) (string_bytes c.push_object_line.new.text) _ _ _ c.push_object_line.ensures (search rules) (search rules) (search rules)
