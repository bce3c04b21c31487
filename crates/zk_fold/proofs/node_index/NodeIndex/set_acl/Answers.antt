use Rattle.std.proofs.Common.{◌≡◌, w32, to_z, of_z, rules, ap, ◌∙◌}
use Rattle.zk_table.specs.Nodes.{guarded}
use Rattle.zk_table.specs.States.{changed, stat_at}
use Rattle.zk_fold.proofs.Deeds.{set_nodes}
use Rattle.zk_fold.proofs.node_index.NodeIndex.set_acl.Goals as goal

pub returns : goal.returns
returns c =
    let change = guarded c.args.acl.now c.args.version in
    let version : to_z w32 (of_z w32 c.args.version) ≡ c.args.version = search rules in
    c.guard.ensures
    ∙ ap (λ v. changed c.args.self.now c.args.path.now (guarded c.in_ok-acl.acl v)) version
    ∙ ap (λ x. changed c.args.self.now c.args.path.now (guarded x c.args.version)) c.in_ok-acl.ensures
    ∙ set_nodes c.args.self.now c.args.path.now change (stat_at (changed c.args.self.now c.args.path.now change) c.args.path.now)
