use Rattle.std.proofs.Common.{◌≡◌, ◌++◌, rules}
use Rattle.std.specs.Prelude.{codes}
use Rattle.std.specs.List.{flat_map}
use Rattle.json.specs.Tree.{json_tokens}
use Rattle.zk_json.specs.Json.{acl_entry_of}
use Rattle.zk_json.proofs.Tokens.{array_added}
use Rattle.zk_json.proofs.contents.push_acl_field.Goals as goal

pub returns : goal.returns
returns c =
    let entries : c.push_acl_entries.new.json.writer.tokens ≡ c.open_array.new.self.writer.tokens ++ flat_map (λ entry. json_tokens (acl_entry_of entry)) c.args.acl.now = search rules in
    array_added acl_entry_of c.close_array.result _ _ _ _ _ (codes "acl") c.args.acl.now c.in_ok-push_name.ensures c.in_ok-open_array.ensures entries c.close_array.ensures
