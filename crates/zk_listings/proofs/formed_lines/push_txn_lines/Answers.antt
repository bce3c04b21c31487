use Rattle.std.proofs.Common.{◌≡◌, ◌<◌, length, get_or, rules}
use Rattle.std.specs.String.{string_bytes}
use Rattle.zk_listings.proofs.Finished.{next_listed}
use Rattle.zk_listings.proofs.formed_lines.push_txn_lines.Goals as goal

pub loop-txn-preserved : goal.loop-txn-preserved
loop-txn-preserved c =
    let txns = c.args.txns.now in
    let at = c.loop-txn.txn-index in
    let lt : at < length txns = search rules in
    let is : c.txn-item.result ≡ get_or txns at c.txn-item.result = search rules in
    next_listed c.args.form txns at c.txn-item.result (string_bytes c.args.text.now) (string_bytes c.loop-txn.text) (string_bytes c.push_txn_line.new.text) lt is c.loop-txn.invariant c.in_ok-push_txn_line.ensures
