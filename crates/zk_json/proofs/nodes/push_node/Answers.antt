use Rattle.std.proofs.Common.{[], ◌++◌, ◌∷◌, ◌≡◌}
use Rattle.std.specs.Prelude.{codes}
use Rattle.zk_json.specs.Nodes.{change_fields, held_fields, version_fields}
use Rattle.zk_json.specs.Json.{Fields, fields_tokens}
use Rattle.zk_json.proofs.Tokens.{add, wrapped}
use Rattle.zk_json.proofs.nodes.push_node.Goals as goal

pub returns : goal.returns
returns c =
    let one : Fields = held_fields c.args.path.now c.args.node.now in
    let two : Fields = change_fields c.args.ctime.now c.args.mtime.now c.args.stat.now in
    let three : Fields = version_fields c.args.stat.now in
    let is_one : c.push_held_fields.new.json.writer.tokens ≡ c.open_object.new.self.writer.tokens ++ fields_tokens one = c.in_ok-push_held_fields.ensures in
    let is_two : c.push_change_fields.new.json.writer.tokens ≡ c.push_held_fields.new.json.writer.tokens ++ fields_tokens two = c.in_ok-push_change_fields.ensures in
    let is_three : c.push_version_fields.new.json.writer.tokens ≡ c.push_change_fields.new.json.writer.tokens ++ fields_tokens three = c.in_ok-push_version_fields.ensures in
    wrapped c.close_object.result c.args.json.now.writer.tokens c.open_object.new.self.writer.tokens c.push_version_fields.new.json.writer.tokens c.close_object.new.self.writer.tokens ((one ++ two) ++ three) c.in_ok-open_object.ensures (add c.open_object.new.self.writer.tokens c.push_change_fields.new.json.writer.tokens c.push_version_fields.new.json.writer.tokens (one ++ two) three (add c.open_object.new.self.writer.tokens c.push_held_fields.new.json.writer.tokens c.push_change_fields.new.json.writer.tokens one two is_one is_two) is_three) c.close_object.ensures
