use Rattle.std.proofs.Common.{◌≡◌, ◌∷◌, ◌++◌, [], rules, append_assoc}
use Rattle.std.specs.String.{string_bytes}
use Rattle.zk_format.specs.Listings.{op_text}
use Rattle.zk_listings.specs.Lines.{front_text}
use Rattle.zk_listings.proofs.timed.push_line_at.Goals as goal

pub returns : goal.returns
returns c =
    let txn = c.args.txn.now in
    let front : string_bytes c.push_front.new.text ≡ string_bytes c.args.text.now ++ front_text txn.zxid txn.session txn.cxid = search rules in
    let time : string_bytes c.push_str.new.self ≡ string_bytes c.push_front.new.text ++ c.args.time.now = search rules in
    let space : string_bytes c.push.new.self ≡ string_bytes c.push_str.new.self ++ 32 ∷ [] = search rules in
    let rest : string_bytes c.push_str-2.new.self ≡ string_bytes c.push.new.self ++ (op_text txn.op ++ 10 ∷ []) = search rules in
    rw (rest, space, time, front) (simp append_assoc)
