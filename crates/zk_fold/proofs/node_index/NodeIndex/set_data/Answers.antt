use Rattle.std.proofs.Common.{◌≡◌, w32, to_z, of_z, rules, ap, ◌∙◌}
use Rattle.zk_table.specs.Nodes.{written}
use Rattle.zk_table.specs.States.{changed, stat_at}
use Rattle.zk_fold.proofs.Deeds.{set_nodes}
use Rattle.zk_fold.proofs.node_index.NodeIndex.set_data.Goals as goal

pub returns : goal.returns
returns c =
    let change = written c.args.txn.now c.args.content.now c.args.version in
    let version : to_z w32 (of_z w32 c.args.version) ≡ c.args.version = search rules in
    c.write.ensures
    ∙ ap (λ v. changed c.args.self.now c.args.path.now (written c.args.txn.now c.in_ok-content.content v)) version
    ∙ ap (λ x. changed c.args.self.now c.args.path.now (written c.args.txn.now x c.args.version)) c.in_ok-content.ensures
    ∙ set_nodes c.args.self.now c.args.path.now change (stat_at (changed c.args.self.now c.args.path.now change) c.args.path.now)
