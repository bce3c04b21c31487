use Rattle.std.proofs.Common.{ℤ, w64, subst, OnOk, [], rules, ◌++◌, ◌∷◌, ◌≡◌}
use Rattle.std.proofs.lemmas.Int.{to_z-of_z}
use Rattle.std.specs.Prelude.{codes}
use Rattle.zk_json.specs.Json.{Fields, fields_tokens, id_of, number_of}
use Rattle.zk_json.proofs.Tokens.{add, added}
use Rattle.zk_json.proofs.nodes.push_version_fields.Goals as goal

pub returns : goal.returns
returns c =
    let one : Fields = (codes "version", number_of c.args.stat.now.version) ∷ [] in
    let two : Fields = (codes "cversion", number_of c.args.stat.now.cversion) ∷ [] in
    let three : Fields = (codes "aversion", number_of c.args.stat.now.aversion) ∷ [] in
    let four : Fields = (codes "ephemeralOwner", id_of c.args.stat.now.ephemeral_owner) ∷ [] in
    let is_one : c.push_number_field.new.json.writer.tokens ≡ c.args.json.now.writer.tokens ++ fields_tokens one = search rules in
    let is_two : c.push_number_field-2.new.json.writer.tokens ≡ c.push_number_field.new.json.writer.tokens ++ fields_tokens two = search rules in
    let is_three : c.push_number_field-3.new.json.writer.tokens ≡ c.push_number_field-2.new.json.writer.tokens ++ fields_tokens three = search rules in
    let last : OnOk c.push_id_field.result (c.push_id_field.new.json.writer.tokens ≡ c.push_number_field-3.new.json.writer.tokens ++ fields_tokens four) = subst (λ (id : ℤ). OnOk c.push_id_field.result (c.push_id_field.new.json.writer.tokens ≡ c.push_number_field-3.new.json.writer.tokens ++ fields_tokens ((codes "ephemeralOwner", id_of id) ∷ []))) (to_z-of_z w64 c.args.stat.now.ephemeral_owner (search rules)) c.push_id_field.ensures in
    added c.push_id_field.result c.args.json.now.writer.tokens c.push_number_field-3.new.json.writer.tokens c.push_id_field.new.json.writer.tokens ((one ++ two) ++ three) four (add c.args.json.now.writer.tokens c.push_number_field-2.new.json.writer.tokens c.push_number_field-3.new.json.writer.tokens (one ++ two) three (add c.args.json.now.writer.tokens c.push_number_field.new.json.writer.tokens c.push_number_field-2.new.json.writer.tokens one two is_one is_two) is_three) last
