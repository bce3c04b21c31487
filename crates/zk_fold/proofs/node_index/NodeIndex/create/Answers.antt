use Rattle.std.proofs.Common.{w32, w64, to_z, of_z, ◌≡◌, rules}
use Rattle.zk_fold.proofs.Deeds.{created_told}
use Rattle.zk_fold.proofs.node_index.NodeIndex.create.Goals as goal

pub returns : goal.returns
returns c =
    let txn = c.args.txn.now in
    let read : to_z w64 (of_z w64 txn.zxid) ≡ txn.zxid = search rules in
    let counted : to_z w32 (of_z w32 c.args.count) ≡ c.args.count = search rules in
    created_told c.put.result c.args.self.now c.put.new.self c.args.path.now c.in_ok-node.node _ c.args.txn.now _ _ _ _ c.args.count read counted c.in_ok-node.ensures c.put.ensures
