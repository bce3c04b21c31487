use Rattle.std.proofs.Common.{option_map}
use Rattle.std.specs.String.{string_bytes}
use Rattle.zk_json.proofs.ReadBack.{changed}
use Rattle.zk_json.specs.Changes.{held_of}
use Rattle.zk_json.proofs.changes.push_change_line.Goals as goal

pub returns : goal.returns
returns c =
    changed c.push_text_line.result c.args.path.now c.args.last (option_map held_of c.args.before) (option_map held_of c.args.after) c.in_ok-json.json.writer.tokens c.push_change.new.json.writer.tokens (string_bytes c.args.text.now) (string_bytes c.push_text_line.new.text) c.in_ok-json.ensures c.in_ok-push_change.ensures c.push_text_line.ensures.read c.push_text_line.ensures.line
