use Rattle.std.proofs.Common.{[], rules, ◌++◌, ◌∷◌, ◌≡◌}
use Rattle.std.specs.Prelude.{codes}
use Rattle.json.specs.Json.{string}
use Rattle.zk_json.specs.Json.{Fields, fields_tokens, number_of}
use Rattle.zk_json.proofs.Tokens.{add, wrapped}
use Rattle.zk_json.proofs.contents.push_acl_entry.Goals as goal

pub returns : goal.returns
returns c =
    let one : Fields = (codes "scheme", string c.args.entry.now.id.scheme) ∷ [] in
    let two : Fields = (codes "id", string c.args.entry.now.id.id) ∷ [] in
    let three : Fields = (codes "perms", number_of c.args.entry.now.perms) ∷ [] in
    let is_one : c.push_text_field.new.json.writer.tokens ≡ c.open_object.new.self.writer.tokens ++ fields_tokens one = search rules in
    let is_two : c.push_text_field-2.new.json.writer.tokens ≡ c.push_text_field.new.json.writer.tokens ++ fields_tokens two = search rules in
    let is_three : c.push_number_field.new.json.writer.tokens ≡ c.push_text_field-2.new.json.writer.tokens ++ fields_tokens three = search rules in
    wrapped c.close_object.result c.args.json.now.writer.tokens c.open_object.new.self.writer.tokens c.push_number_field.new.json.writer.tokens c.close_object.new.self.writer.tokens ((one ++ two) ++ three) c.in_ok-open_object.ensures (add c.open_object.new.self.writer.tokens c.push_text_field-2.new.json.writer.tokens c.push_number_field.new.json.writer.tokens (one ++ two) three (add c.open_object.new.self.writer.tokens c.push_text_field.new.json.writer.tokens c.push_text_field-2.new.json.writer.tokens one two is_one is_two) is_three) c.close_object.ensures
