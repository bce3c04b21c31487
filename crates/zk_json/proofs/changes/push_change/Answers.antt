use Rattle.std.proofs.Common.{◌≡◌, ◌++◌, ◌∷◌, [], option_map, rules}
use Rattle.std.specs.Prelude.{codes}
use Rattle.json.specs.Json.{string}
use Rattle.zk_json.specs.Changes.{held_of}
use Rattle.zk_json.specs.Json.{fields_tokens}
use Rattle.zk_json.proofs.Tokens.{changed_tokens}
use Rattle.zk_json.proofs.changes.push_change.Goals as goal

pub returns : goal.returns
returns c =
    let placed : c.push_text_field.new.json.writer.tokens ≡ c.open_object.new.self.writer.tokens ++ fields_tokens ((codes "path", string c.args.path.now) ∷ []) = search rules in
    changed_tokens c.close_object.result c.args.path.now c.args.last (option_map held_of c.args.before) (option_map held_of c.args.after)
    c.args.json.now.writer.tokens c.open_object.new.self.writer.tokens c.push_text_field.new.json.writer.tokens
    c.push_name.new.self.writer.tokens c.push_last.new.json.writer.tokens
    c.push_name-2.new.self.writer.tokens c.push_side.new.json.writer.tokens c.push_name-3.new.self.writer.tokens c.push_side-2.new.json.writer.tokens c.close_object.new.self.writer.tokens
    c.in_ok-open_object.ensures placed c.in_ok-push_name.ensures c.in_ok-push_last.ensures c.in_ok-push_name-2.ensures c.in_ok-push_side.ensures c.in_ok-push_name-3.ensures c.in_ok-push_side-2.ensures c.close_object.ensures
