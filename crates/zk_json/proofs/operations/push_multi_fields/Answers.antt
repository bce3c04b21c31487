use Rattle.std.proofs.Common.{◌∷◌, []}
use Rattle.std.specs.Prelude.{codes, map}
use Rattle.json.specs.Json.{string}
use Rattle.zk_json.specs.Json.{array_of}
use Rattle.zk_json.specs.Records.{part_of}
use Rattle.zk_json.proofs.Tokens.{added, array_added}
use Rattle.zk_json.proofs.operations.push_multi_fields.Goals as goal

pub returns : goal.returns
returns c =
    let ops = array_added part_of c.close_array.result _ _ _ _ _ (codes "ops") c.args.parts.now c.in_ok-push_name.ensures c.in_ok-open_array.ensures c.in_ok-push_parts.ensures c.close_array.ensures in
    added c.close_array.result c.args.json.now.writer.tokens c.push_text_field.new.json.writer.tokens c.close_array.new.self.writer.tokens ((codes "type", string (codes "multi")) ∷ []) ((codes "ops", array_of (map part_of c.args.parts.now)) ∷ []) c.in_ok-push_text_field.ensures ops
