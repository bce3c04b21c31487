use Rattle.std.proofs.Common.{[], ◌++◌, ◌∷◌, ◌≡◌}
use Rattle.std.specs.Prelude.{codes}
use Rattle.json.specs.Json.{boolean}
use Rattle.zk_json.specs.Json.{Fields, fields_tokens, acl_of, content_fields}
use Rattle.zk_json.proofs.Tokens.{add, added}
use Rattle.zk_json.proofs.operations.push_new_node.Goals as goal

pub returns : goal.returns
returns c =
    let one : Fields = content_fields c.args.content.now in
    let two : Fields = (codes "acl", acl_of c.args.acl.now) ∷ [] in
    let three : Fields = (codes "ephemeral", boolean c.args.ephemeral) ∷ [] in
    let is_one : c.push_content_fields.new.json.writer.tokens ≡ c.args.json.now.writer.tokens ++ fields_tokens one = c.in_ok-push_content_fields.ensures in
    let is_two : c.push_acl_field.new.json.writer.tokens ≡ c.push_content_fields.new.json.writer.tokens ++ fields_tokens two = c.in_ok-push_acl_field.ensures in
    added c.push_boolean_field.result c.args.json.now.writer.tokens c.push_acl_field.new.json.writer.tokens c.push_boolean_field.new.json.writer.tokens (one ++ two) three (add c.args.json.now.writer.tokens c.push_content_fields.new.json.writer.tokens c.push_acl_field.new.json.writer.tokens one two is_one is_two) c.push_boolean_field.ensures
