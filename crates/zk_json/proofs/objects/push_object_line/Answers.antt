use Rattle.std.proofs.Common.{map}
use Rattle.std.specs.String.{string_bytes}
use Rattle.zk_json.specs.Json.{object_of}
use Rattle.zk_json.specs.Objects.{field_of}
use Rattle.zk_json.proofs.ReadBack.{finished, flat_depth}
use Rattle.zk_json.proofs.objects.push_object_line.Goals as goal

pub returns : goal.returns
returns c =
    let json = object_of (map field_of c.args.fields.now) in
    finished c.push_text_line.result json c.in_ok-json.json.writer.tokens c.push_object.new.json.writer.tokens (string_bytes c.args.text.now) (string_bytes c.push_text_line.new.text) (flat_depth c.args.fields.now) c.in_ok-json.ensures c.in_ok-push_object.ensures c.push_text_line.ensures.read c.push_text_line.ensures.line
