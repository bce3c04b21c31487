use Rattle.std.proofs.Common.{◌≡◌, refl, w32, to_z, of_z, rules, sym, ap, subst, ◌∙◌}
use Rattle.zk_table.specs.Nodes.{written}
use Rattle.zk_table.specs.States.{changed}
use Rattle.zk_fold.specs.Slots.{nodes_at, place_changed, with_node}
use Rattle.zk_fold.proofs.Counting.{nodes_written}
use Rattle.zk_fold.proofs.Making.{AreNodeIndex, forest_written}
use Rattle.zk_fold.proofs.node_index.NodeIndex.write.Goals as goal

pub invariant_of-self : goal.invariant_of-self
invariant_of-self c =
    let m = c.self.inside.places in
    let path = c.args.path.now in
    let change = written c.args.txn.now c.args.content c.args.version in
    let version : to_z w32 (of_z w32 c.args.version) ≡ c.args.version = search rules in
    let is : c.write.new.self ≡ place_changed m path (with_node change) = c.write.ensures ∙ ap (λ k. place_changed m k (with_node (written c.args.txn.now c.args.content (to_z w32 (of_z w32 c.args.version))))) c.text.ensures.text ∙ ap (λ v. place_changed m path (with_node (written c.args.txn.now c.args.content v))) version in
    subst (AreNodeIndex c.self.inside.owners) (sym is) (forest_written m c.self.inside.owners path change (λ x. refl) c.self.invariant)

pub returns : goal.returns
returns c =
    let m = c.self.inside.places in
    let path = c.args.path.now in
    let change = written c.args.txn.now c.args.content c.args.version in
    let version : to_z w32 (of_z w32 c.args.version) ≡ c.args.version = search rules in
    let is : c.write.new.self ≡ place_changed m path (with_node change) = c.write.ensures ∙ ap (λ k. place_changed m k (with_node (written c.args.txn.now c.args.content (to_z w32 (of_z w32 c.args.version))))) c.text.ensures.text ∙ ap (λ v. place_changed m path (with_node (written c.args.txn.now c.args.content v))) version in
    ap nodes_at is ∙ nodes_written m path change c.self.invariant.0 ∙ ap (λ n. changed n path change) c.self.view_is
