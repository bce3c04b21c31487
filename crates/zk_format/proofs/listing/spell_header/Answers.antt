use Rattle.std.proofs.Common.{◌≡◌, ◌∷◌, ◌++◌, rules, append_assoc}
use Rattle.std.specs.Fmt.{signed_decimal}
use Rattle.std.specs.String.{string_bytes}
use Rattle.zk_format.specs.Spelling.{id_digits}
use Rattle.zk_format.proofs.listing.spell_header.Goals as goal

pub returns : goal.returns
returns c =
    let txn = c.args.txn.now in
    let one : string_bytes c.push_id.new.line ≡ string_bytes c.args.text.now ++ id_digits txn.zxid = search rules in
    let two : string_bytes c.spell_next_id.new.line ≡ string_bytes c.push_id.new.line ++ 32 ∷ id_digits txn.session = search rules in
    let three : string_bytes c.spell_next_decimal.new.line ≡ string_bytes c.spell_next_id.new.line ++ 32 ∷ signed_decimal txn.cxid = search rules in
    let rest : string_bytes c.spell_next_decimal-2.new.line ≡ string_bytes c.spell_next_decimal.new.line ++ 32 ∷ signed_decimal txn.time = search rules in
    rw (rest, three, two, one) (simp append_assoc)
