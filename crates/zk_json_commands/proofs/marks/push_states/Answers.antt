use Rattle.std.proofs.Common.{rules}
use Rattle.std.specs.String.{string_bytes}
use Rattle.zk_json.specs.Objects.{value_of}
use Rattle.zk_json_commands.proofs.WrittenReports.{stated}
use Rattle.zk_json_commands.proofs.marks.push_states.Goals as goal

pub returns : goal.returns
returns c =
    stated c.push_object_line.result (value_of c.args.base) c.args.exact c.args.last c.args.digests (string_bytes c.args.text.now) (string_bytes c.push_object_line.new.text) _ _ _ _ _ _ c.push_object_line.ensures
    (search rules) (search rules) (search rules) (search rules) (search rules) (search rules)
