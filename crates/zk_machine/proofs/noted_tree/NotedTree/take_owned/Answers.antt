use Rattle.std.proofs.Common.{◌≡◌, refl, sym, ap, ◌∙◌, subst, List, ℕ, w64, to_z, of_z, rules}
use Rattle.zk_table.specs.Nodes.{without_child}
use Rattle.zk_table.specs.States.{owned_by, parent_changed}
use Rattle.zk_machine.proofs.Owned.{AreOwned, all_owned, without_next, owned_next, owned_there, owned_below, owned_childless}
use Rattle.zk_machine.proofs.noted_tree.NotedTree.take_owned.Goals as goal

pub loop-path-init : goal.loop-path-init
loop-path-init c =
    let read : to_z w64 (of_z w64 c.args.txn.now.session) ≡ c.args.txn.now.session = search rules in
    let items = c.as_slice-path-items.ensures.value ∙ c.in_ok-owned.ensures.paths ∙ ap (owned_by c.args.self.now.tree) read in
    (refl, refl, subst (λ (l : List (List ℕ)). AreOwned c.args.self.now.tree c.args.txn.now.session l) (sym items) (all_owned c.args.self.now.tree c.args.txn.now.session))

pub take-requires-clause-there : goal.take-requires-clause-there
take-requires-clause-there c = owned_there c.args.txn.now c.loop-path.self.tree c.args.txn.now.session c.as_slice-path-items.result.now c.loop-path.path-index c.path-item.result c.loop-path-test.true (sym c.path-item.is) c.loop-path.invariant.2

pub take-requires-clause-below : goal.take-requires-clause-below
take-requires-clause-below c = owned_below c.args.txn.now c.loop-path.self.tree c.args.txn.now.session c.as_slice-path-items.result.now c.loop-path.path-index c.path-item.result c.loop-path-test.true (sym c.path-item.is) c.loop-path.invariant.2 c.stands.ensures

pub take-requires-clause-childless : goal.take-requires-clause-childless
take-requires-clause-childless c = owned_childless c.args.txn.now c.loop-path.self.tree c.args.txn.now.session c.as_slice-path-items.result.now c.loop-path.path-index c.path-item.result c.loop-path-test.true (sym c.path-item.is) c.loop-path.invariant.2 c.stands.ensures

pub loop-path-preserved : goal.loop-path-preserved
loop-path-preserved c =
    let txn = c.args.txn.now in
    let read : to_z w64 (of_z w64 txn.zxid) ≡ txn.zxid = search rules in
    let gone = c.in_ok-parent_loses.ensures.tree ∙ ap (λ z. parent_changed c.take.new.self.tree c.path-item.result (without_child z)) read ∙ ap (λ m. parent_changed m c.path-item.result (without_child txn.zxid)) c.in_ok-take.ensures.tree in (
      without_next txn c.loop-path.self.tree txn.session c.as_slice-path-items.result.now c.loop-path.path-index c.path-item.result c.loop-path-test.true (sym c.path-item.is) c.loop-path.invariant.2 c.parent_loses.new.self.tree gone ∙ c.loop-path.invariant.0,
      c.in_ok-parent_loses.ensures.before ∙ c.in_ok-take.ensures.before ∙ c.loop-path.invariant.1,
      owned_next txn c.loop-path.self.tree txn.session c.as_slice-path-items.result.now c.loop-path.path-index c.path-item.result c.loop-path-test.true (sym c.path-item.is) c.loop-path.invariant.2 c.parent_loses.new.self.tree gone,
    )
