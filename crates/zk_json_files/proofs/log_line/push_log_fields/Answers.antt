use Rattle.std.proofs.Common.{rules}
use Rattle.std.specs.String.{string_bytes}
use Rattle.zk_json.specs.Objects.{value_of}
use Rattle.zk_json_files.proofs.Lines.{head_stated}
use Rattle.zk_json_files.proofs.log_line.push_log_fields.Goals as goal

pub returns : goal.returns
returns c =
    head_stated c.push_object_line.result c.args.name.now c.args.records (value_of c.args.first) (value_of c.args.last) c.args.outcome (string_bytes c.args.text.now) (string_bytes c.push_object_line.new.text) _ _ _ _ _ c.push_object_line.ensures (search rules)
    (search rules) (search rules) (search rules) (search rules)
