use Rattle.std.proofs.Common.{◌≡◌, ◌∷◌, ◌++◌, [], rules, append_assoc}
use Rattle.std.specs.Prelude.{codes}
use Rattle.std.specs.Fmt.{signed_decimal}
use Rattle.std.specs.String.{string_bytes}
use Rattle.zk_format.specs.Listings.{ephemeral_text}
use Rattle.zk_format.specs.Spelling.{quoted, content_text, acl_text}
use Rattle.zk_format.proofs.listing.spell_create.Goals as goal

pub returns : goal.returns
returns c =
    let word : string_bytes c.push_str.new.self ≡ string_bytes c.args.text.now ++ codes "create " = search rules in
    let path : string_bytes c.spell_quoted.new.line ≡ string_bytes c.push_str.new.self ++ quoted c.args.path.now = search rules in
    let space : string_bytes c.push.new.self ≡ string_bytes c.spell_quoted.new.line ++ 32 ∷ [] = search rules in
    let content : string_bytes c.spell_content.new.line ≡ string_bytes c.push.new.self ++ content_text c.args.content.now = search rules in
    let gap : string_bytes c.push-2.new.self ≡ string_bytes c.spell_content.new.line ++ 32 ∷ [] = search rules in
    let acl : string_bytes c.spell_acl.new.line ≡ string_bytes c.push-2.new.self ++ acl_text c.args.acl.now = search rules in
    let kind : string_bytes c.spell_ephemeral.new.text ≡ string_bytes c.spell_acl.new.line ++ 32 ∷ ephemeral_text c.args.ephemeral = search rules in
    let count : string_bytes c.spell_next_decimal.new.line ≡ string_bytes c.spell_ephemeral.new.text ++ 32 ∷ signed_decimal c.args.count = search rules in
    rw (count, kind, acl, gap, content, space, path, word) (simp append_assoc)
