use Rattle.std.proofs.Common.{rules}
use Rattle.std.specs.String.{string_bytes}
use Rattle.zk_json_files.proofs.Lines.{contents_stated}
use Rattle.zk_json_files.proofs.snapshot_line.push_contents.Goals as goal

pub returns : goal.returns
returns c =
    contents_stated c.push_snapshot_fields.result c.args.name.now c.args.zxid c.args.snapshot.now (string_bytes c.args.text.now) (string_bytes c.push_snapshot_fields.new.text) _ _ _ _ c.push_snapshot_fields.ensures (search rules) (search rules) (search rules)
    (search rules)
