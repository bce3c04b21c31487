use Rattle.std.proofs.Common.{◌≡◌, ◌∷◌, ◌++◌, [], rules, append_assoc}
use Rattle.std.specs.Prelude.{codes}
use Rattle.std.specs.Fmt.{signed_decimal}
use Rattle.std.specs.String.{string_bytes}
use Rattle.zk_format.specs.Spelling.{quoted, acl_text}
use Rattle.zk_format.proofs.listing.spell_set_acl.Goals as goal

pub returns : goal.returns
returns c =
    let word : string_bytes c.push_str.new.self ≡ string_bytes c.args.text.now ++ codes "setACL " = search rules in
    let path : string_bytes c.spell_quoted.new.line ≡ string_bytes c.push_str.new.self ++ quoted c.args.path.now = search rules in
    let space : string_bytes c.push.new.self ≡ string_bytes c.spell_quoted.new.line ++ 32 ∷ [] = search rules in
    let acl : string_bytes c.spell_acl.new.line ≡ string_bytes c.push.new.self ++ acl_text c.args.acl.now = search rules in
    let version : string_bytes c.spell_next_decimal.new.line ≡ string_bytes c.spell_acl.new.line ++ 32 ∷ signed_decimal c.args.version = search rules in
    rw (version, acl, space, path, word) (simp append_assoc)
