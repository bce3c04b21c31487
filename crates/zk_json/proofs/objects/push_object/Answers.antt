use Rattle.std.proofs.Common.{◌++◌, ◌≡◌, map}
use Rattle.zk_json.specs.Json.{Fields, fields_tokens}
use Rattle.zk_json.specs.Objects.{field_of}
use Rattle.zk_json.proofs.Tokens.{wrapped}
use Rattle.zk_json.proofs.objects.push_object.Goals as goal

pub returns : goal.returns
returns c =
    let fields : Fields = map field_of c.args.fields.now in
    let are : c.push_fields.new.json.writer.tokens ≡ c.open_object.new.self.writer.tokens ++ fields_tokens fields = c.in_ok-push_fields.ensures in
    wrapped c.close_object.result c.args.json.now.writer.tokens c.open_object.new.self.writer.tokens c.push_fields.new.json.writer.tokens c.close_object.new.self.writer.tokens fields c.in_ok-open_object.ensures are c.close_object.ensures
