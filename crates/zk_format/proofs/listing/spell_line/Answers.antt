use Rattle.std.proofs.Common.{◌≡◌, ◌∷◌, ◌++◌, [], rules}
use Rattle.std.specs.String.{string_bytes}
use Rattle.zk_format.specs.Listings.{header_text, op_text}
use Rattle.zk_format.proofs.Appending.{line_pieces}
use Rattle.zk_format.proofs.listing.spell_line.Goals as goal

pub returns : goal.returns
returns c =
    let txn = c.args.txn.now in
    let header : string_bytes c.spell_header.new.text ≡ string_bytes c.args.text.now ++ header_text txn = search rules in
    let space : string_bytes c.push.new.self ≡ string_bytes c.spell_header.new.text ++ 32 ∷ [] = search rules in
    let op : string_bytes c.spell_op.new.text ≡ string_bytes c.push.new.self ++ op_text txn.op = search rules in
    let end : string_bytes c.push-2.new.self ≡ string_bytes c.spell_op.new.text ++ 10 ∷ [] = search rules in
    rw (end, op, space, header) (line_pieces (string_bytes c.args.text.now) (header_text txn) (op_text txn.op) (10 ∷ []))
