use Rattle.std.proofs.Common.{◌++◌, ◌≡◌}
use Rattle.std.proofs.Common.{map}
use Rattle.zk_json.specs.Records.{record_fields}
use Rattle.zk_json.specs.Incidents.{change_fields}
use Rattle.zk_json.specs.Json.{Fields, fields_tokens}
use Rattle.zk_json.proofs.Tokens.{add, wrapped}
use Rattle.zk_json.proofs.incidents.push_history.Goals as goal

pub returns : goal.returns
returns c =
    let one : Fields = change_fields (map (λ path. path.now) c.args.paths.now) c.args.kind.now c.args.expired in
    let two : Fields = record_fields c.args.time.now c.args.txn.now in
    let is_one : c.push_change_fields.new.json.writer.tokens ≡ c.open_object.new.self.writer.tokens ++ fields_tokens one = c.in_ok-push_change_fields.ensures in
    let is_two : c.push_record_fields.new.json.writer.tokens ≡ c.push_change_fields.new.json.writer.tokens ++ fields_tokens two = c.in_ok-push_record_fields.ensures in
    wrapped c.close_object.result c.args.json.now.writer.tokens c.open_object.new.self.writer.tokens c.push_record_fields.new.json.writer.tokens c.close_object.new.self.writer.tokens (one ++ two) c.in_ok-open_object.ensures (add c.open_object.new.self.writer.tokens c.push_change_fields.new.json.writer.tokens c.push_record_fields.new.json.writer.tokens one two is_one is_two) c.close_object.ensures
