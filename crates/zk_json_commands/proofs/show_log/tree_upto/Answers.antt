use Rattle.std.proofs.Common.{◌≡◌, ◌<◌, false, length, get_or, rules}
use Rattle.zk_json_commands.proofs.Loaded.{tree_more}
use Rattle.zk_table.specs.States.{start_state}
use Rattle.zk_json_commands.proofs.show_log.tree_upto.Goals as goal

pub loop-txn-preserved : goal.loop-txn-preserved
loop-txn-preserved c =
    let txns = c.args.txns.now in
    let at = c.loop-txn.txn-index in
    let lt : at < length txns = search rules in
    let is : c.txn-item.result ≡ get_or txns at c.txn-item.result = search rules in
    let running : c.advance_shown.new.table.failed ≡ false = search rules in
    (running, tree_more c.args.upto start_state c.loop-txn.table.state c.advance_shown.new.table.state txns at c.txn-item.result lt is c.loop-txn.invariant.1 c.in_ok-advance_shown.ensures.state)
