use Rattle.std.proofs.Common.{[], ◌++◌, ◌∷◌, ◌≡◌}
use Rattle.std.specs.Prelude.{codes}
use Rattle.zk_json.specs.Records.{part_fields}
use Rattle.zk_json.specs.Json.{Fields, fields_tokens}
use Rattle.zk_json.proofs.Tokens.{add, wrapped}
use Rattle.zk_json.proofs.operations.push_part.Goals as goal

pub returns : goal.returns
returns c =
    let one : Fields = part_fields c.args.part.now in
    let is_one : c.push_part_fields.new.json.writer.tokens ≡ c.open_object.new.self.writer.tokens ++ fields_tokens one = c.in_ok-push_part_fields.ensures in
    wrapped c.close_object.result c.args.json.now.writer.tokens c.open_object.new.self.writer.tokens c.push_part_fields.new.json.writer.tokens c.close_object.new.self.writer.tokens one c.in_ok-open_object.ensures is_one c.close_object.ensures
