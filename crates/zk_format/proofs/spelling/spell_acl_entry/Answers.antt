use Rattle.std.proofs.Common.{◌≡◌, ◌∷◌, ◌++◌, [], rules}
use Rattle.std.specs.Fmt.{signed_decimal}
use Rattle.std.specs.String.{string_bytes}
use Rattle.zk_format.specs.Spelling.{quoted, acl_entry_text}
use Rattle.zk_format.proofs.Appending.{entry_pieces}
use Rattle.zk_format.proofs.spelling.spell_acl_entry.Goals as goal

pub returns : goal.returns
unfolding acl_entry_text
returns c =
    let entry = c.args.entry.now in
    let perms : string_bytes c.spell_next_decimal.new.line ≡ string_bytes c.args.line.now ++ 32 ∷ signed_decimal entry.perms = search rules in
    let gap : string_bytes c.push.new.self ≡ string_bytes c.spell_next_decimal.new.line ++ 32 ∷ [] = search rules in
    let scheme : string_bytes c.spell_quoted.new.line ≡ string_bytes c.push.new.self ++ quoted entry.id.scheme = search rules in
    let space : string_bytes c.push-2.new.self ≡ string_bytes c.spell_quoted.new.line ++ 32 ∷ [] = search rules in
    let id : string_bytes c.spell_quoted-2.new.line ≡ string_bytes c.push-2.new.self ++ quoted entry.id.id = search rules in
    rw (id, space, scheme, gap, perms) (entry_pieces (string_bytes c.args.line.now) (32 ∷ signed_decimal entry.perms) (quoted entry.id.scheme) (quoted entry.id.id))
