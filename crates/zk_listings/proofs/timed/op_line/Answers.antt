use Rattle.std.proofs.Common.{◌≡◌, ◌++◌, ◌∷◌, [], rules}
use Rattle.std.specs.Fmt.{signed_decimal}
use Rattle.zk_format.specs.Listings.{line_of, op_text}
use Rattle.zk_listings.specs.Lines.{front_text}
use Rattle.zk_listings.proofs.Finished.{after_line, line_parts}
use Rattle.zk_listings.proofs.timed.op_line.Goals as goal

pub unreachable-requires : goal.unreachable-requires
unreachable-requires c =
    let txn = c.args.txn.now in
    let begun : c.as_str.result.now ≡ front_text txn.zxid txn.session txn.cxid ++ (signed_decimal txn.time ++ 32 ∷ []) = search rules in
    let whole : c.as_str-2.result.now ≡ line_of txn = search rules in
    c.in-None.ensures (op_text txn.op ++ 10 ∷ []) (line_parts txn c.as_str.result.now c.as_str-2.result.now begun whole)

pub returns : goal.returns
returns c =
    let txn = c.args.txn.now in
    let begun : c.as_str.result.now ≡ front_text txn.zxid txn.session txn.cxid ++ (signed_decimal txn.time ++ 32 ∷ []) = search rules in
    let whole : c.as_str-2.result.now ≡ line_of txn = search rules in
    let rest : c.in-Some.rest.now ≡ op_text txn.op ++ 10 ∷ [] = after_line txn c.as_str.result.now c.as_str-2.result.now c.in-Some.rest.now begun whole c.in-Some.ensures in
    search (rules, rest)
