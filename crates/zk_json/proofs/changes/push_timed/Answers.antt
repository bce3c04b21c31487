use Rattle.std.proofs.Common.{◌++◌, ◌≡◌, rules}
use Rattle.zk_json.specs.Changes.{last_fields}
use Rattle.zk_json.specs.Json.{Fields, fields_tokens}
use Rattle.zk_json.proofs.Tokens.{wrapped}
use Rattle.zk_json.proofs.changes.push_timed.Goals as goal

pub returns : goal.returns
returns c =
    let fields : Fields = last_fields c.args.zxid c.args.time.now in
    let are : c.push_last_fields.new.json.writer.tokens ≡ c.open_object.new.self.writer.tokens ++ fields_tokens fields = search rules in
    wrapped c.close_object.result c.args.json.now.writer.tokens c.open_object.new.self.writer.tokens c.push_last_fields.new.json.writer.tokens c.close_object.new.self.writer.tokens fields c.in_ok-open_object.ensures are c.close_object.ensures
