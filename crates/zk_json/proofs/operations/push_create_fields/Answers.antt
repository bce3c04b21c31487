use Rattle.std.proofs.Common.{OnOk, [], rules, ◌++◌, ◌∷◌, ◌≡◌}
use Rattle.std.specs.Prelude.{codes}
use Rattle.json.specs.Json.{string}
use Rattle.zk_json.specs.Records.{new_node_fields}
use Rattle.zk_json.specs.Json.{Fields, fields_tokens, number_of}
use Rattle.zk_json.proofs.Tokens.{add, added}
use Rattle.zk_json.proofs.operations.push_create_fields.Goals as goal

pub returns : goal.returns
returns c =
    let one : Fields = (codes "type", string (codes "create")) ∷ (codes "path", string c.args.path.now) ∷ [] in
    let two : Fields = new_node_fields c.args.content.now c.args.acl.now c.args.ephemeral in
    let three : Fields = (codes "parentCVersion", number_of c.args.count) ∷ [] in
    let is_one : c.push_place.new.json.writer.tokens ≡ c.args.json.now.writer.tokens ++ fields_tokens one = c.in_ok-push_place.ensures in
    let is_two : c.push_new_node.new.json.writer.tokens ≡ c.push_place.new.json.writer.tokens ++ fields_tokens two = c.in_ok-push_new_node.ensures in
    let last : OnOk c.push_number_field.result (c.push_number_field.new.json.writer.tokens ≡ c.push_new_node.new.json.writer.tokens ++ fields_tokens three) = search rules in
    added c.push_number_field.result c.args.json.now.writer.tokens c.push_new_node.new.json.writer.tokens c.push_number_field.new.json.writer.tokens (one ++ two) three (add c.args.json.now.writer.tokens c.push_place.new.json.writer.tokens c.push_new_node.new.json.writer.tokens one two is_one is_two) last
