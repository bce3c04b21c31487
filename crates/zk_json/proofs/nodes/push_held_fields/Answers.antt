use Rattle.std.proofs.Common.{[], rules, ◌++◌, ◌∷◌, ◌≡◌}
use Rattle.std.specs.Prelude.{codes}
use Rattle.json.specs.Json.{string}
use Rattle.zk_json.specs.Json.{Fields, fields_tokens, acl_of, content_fields}
use Rattle.zk_json.proofs.Tokens.{add, added}
use Rattle.zk_json.proofs.nodes.push_held_fields.Goals as goal

pub returns : goal.returns
returns c =
    let one : Fields = (codes "path", string c.args.path.now) ∷ [] in
    let two : Fields = content_fields c.args.node.now.content in
    let three : Fields = (codes "acl", acl_of c.args.node.now.acl) ∷ [] in
    let is_one : c.push_text_field.new.json.writer.tokens ≡ c.args.json.now.writer.tokens ++ fields_tokens one = search rules in
    let is_two : c.push_content_fields.new.json.writer.tokens ≡ c.push_text_field.new.json.writer.tokens ++ fields_tokens two = c.in_ok-push_content_fields.ensures in
    added c.push_acl_field.result c.args.json.now.writer.tokens c.push_content_fields.new.json.writer.tokens c.push_acl_field.new.json.writer.tokens (one ++ two) three (add c.args.json.now.writer.tokens c.push_text_field.new.json.writer.tokens c.push_content_fields.new.json.writer.tokens one two is_one is_two) c.push_acl_field.ensures
