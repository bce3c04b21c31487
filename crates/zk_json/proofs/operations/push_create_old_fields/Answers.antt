use Rattle.std.proofs.Common.{[], ◌++◌, ◌∷◌, ◌≡◌}
use Rattle.std.specs.Prelude.{codes}
use Rattle.json.specs.Json.{string}
use Rattle.zk_json.specs.Records.{new_node_fields}
use Rattle.zk_json.specs.Json.{Fields, fields_tokens}
use Rattle.zk_json.proofs.Tokens.{added}
use Rattle.zk_json.proofs.operations.push_create_old_fields.Goals as goal

pub returns : goal.returns
returns c =
    let one : Fields = (codes "type", string (codes "create0")) ∷ (codes "path", string c.args.path.now) ∷ [] in
    let two : Fields = new_node_fields c.args.content.now c.args.acl.now c.args.ephemeral in
    let is_one : c.push_place.new.json.writer.tokens ≡ c.args.json.now.writer.tokens ++ fields_tokens one = c.in_ok-push_place.ensures in
    added c.push_new_node.result c.args.json.now.writer.tokens c.push_place.new.json.writer.tokens c.push_new_node.new.json.writer.tokens one two is_one c.push_new_node.ensures
