use Rattle.std.proofs.Common.{◌≡◌, ◌∷◌, ◌++◌, [], rules, append_assoc}
use Rattle.std.specs.Fmt.{signed_decimal}
use Rattle.std.specs.String.{string_bytes}
use Rattle.zk_format.specs.Spelling.{id_digits}
use Rattle.zk_listings.proofs.timed.push_front.Goals as goal

pub returns : goal.returns
returns c =
    let zxid : string_bytes c.push_id.new.line ≡ string_bytes c.args.text.now ++ id_digits c.args.zxid = search rules in
    let space : string_bytes c.push.new.self ≡ string_bytes c.push_id.new.line ++ 32 ∷ [] = search rules in
    let session : string_bytes c.push_id-2.new.line ≡ string_bytes c.push.new.self ++ id_digits c.args.session = search rules in
    let rest : string_bytes c.write.new.self ≡ string_bytes c.push_id-2.new.line ++ (32 ∷ signed_decimal c.args.cxid ++ 32 ∷ []) = search rules in
    rw (rest, session, space, zxid) (simp append_assoc)
