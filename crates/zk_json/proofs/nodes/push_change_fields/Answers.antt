use Rattle.std.proofs.Common.{[], rules, ◌++◌, ◌∷◌, ◌≡◌}
use Rattle.std.specs.Prelude.{codes}
use Rattle.json.specs.Json.{string}
use Rattle.zk_json.specs.Json.{Fields, fields_tokens, id_of}
use Rattle.zk_json.proofs.Tokens.{add, added}
use Rattle.zk_json.proofs.nodes.push_change_fields.Goals as goal

pub returns : goal.returns
returns c =
    let one : Fields = (codes "czxid", id_of c.args.stat.now.czxid) ∷ [] in
    let two : Fields = (codes "mzxid", id_of c.args.stat.now.mzxid) ∷ [] in
    let three : Fields = (codes "pzxid", id_of c.args.stat.now.pzxid) ∷ [] in
    let four : Fields = (codes "ctime", string c.args.ctime.now) ∷ [] in
    let five : Fields = (codes "mtime", string c.args.mtime.now) ∷ [] in
    let is_one : c.push_id_field.new.json.writer.tokens ≡ c.args.json.now.writer.tokens ++ fields_tokens one = search rules in
    let is_two : c.push_id_field-2.new.json.writer.tokens ≡ c.push_id_field.new.json.writer.tokens ++ fields_tokens two = search rules in
    let is_three : c.push_id_field-3.new.json.writer.tokens ≡ c.push_id_field-2.new.json.writer.tokens ++ fields_tokens three = search rules in
    let is_four : c.push_text_field.new.json.writer.tokens ≡ c.push_id_field-3.new.json.writer.tokens ++ fields_tokens four = c.in_ok-push_text_field.ensures in
    added c.push_text_field-2.result c.args.json.now.writer.tokens c.push_text_field.new.json.writer.tokens c.push_text_field-2.new.json.writer.tokens (((one ++ two) ++ three) ++ four) five (add c.args.json.now.writer.tokens c.push_id_field-3.new.json.writer.tokens c.push_text_field.new.json.writer.tokens ((one ++ two) ++ three) four (add c.args.json.now.writer.tokens c.push_id_field-2.new.json.writer.tokens c.push_id_field-3.new.json.writer.tokens (one ++ two) three (add c.args.json.now.writer.tokens c.push_id_field.new.json.writer.tokens c.push_id_field-2.new.json.writer.tokens one two is_one is_two) is_three) is_four) c.push_text_field-2.ensures
