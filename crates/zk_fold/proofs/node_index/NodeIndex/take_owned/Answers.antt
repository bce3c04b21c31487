use Rattle.std.proofs.Common.{◌≡◌, refl, sym, ap, ◌∙◌, subst, List, ℕ, w64, to_z, of_z, rules}
use Rattle.zk_table.specs.States.{owned_by}
use Rattle.zk_machine.proofs.Owned.{AreOwned, all_owned, without_next, owned_next, owned_there, owned_below, owned_childless}
use Rattle.zk_fold.proofs.node_index.NodeIndex.take_owned.Goals as goal

pub loop-path-init : goal.loop-path-init
loop-path-init c =
    let read : to_z w64 (of_z w64 c.args.txn.now.session) ≡ c.args.txn.now.session = search rules in
    let items = c.as_slice-path-items.ensures.value ∙ c.in_ok-owned.ensures.paths ∙ ap (owned_by c.args.self.now) read in
    (refl, subst (λ (l : List (List ℕ)). AreOwned c.args.self.now c.args.txn.now.session l) (sym items) (all_owned c.args.self.now c.args.txn.now.session))

pub take-requires-clause-there : goal.take-requires-clause-there
take-requires-clause-there c = owned_there c.args.txn.now c.loop-path.self c.args.txn.now.session c.as_slice-path-items.result.now c.loop-path.path-index c.path-item.result c.loop-path-test.true (sym c.path-item.is) c.loop-path.invariant.1

pub take-requires-clause-below : goal.take-requires-clause-below
take-requires-clause-below c = owned_below c.args.txn.now c.loop-path.self c.args.txn.now.session c.as_slice-path-items.result.now c.loop-path.path-index c.path-item.result c.loop-path-test.true (sym c.path-item.is) c.loop-path.invariant.1 c.stands.ensures

pub take-requires-clause-childless : goal.take-requires-clause-childless
take-requires-clause-childless c = owned_childless c.args.txn.now c.loop-path.self c.args.txn.now.session c.as_slice-path-items.result.now c.loop-path.path-index c.path-item.result c.loop-path-test.true (sym c.path-item.is) c.loop-path.invariant.1 c.stands.ensures

pub loop-path-preserved : goal.loop-path-preserved
loop-path-preserved c =
    let txn = c.args.txn.now in (
      without_next txn c.loop-path.self txn.session c.as_slice-path-items.result.now c.loop-path.path-index c.path-item.result c.loop-path-test.true (sym c.path-item.is) c.loop-path.invariant.1 c.take.new.self c.take.ensures ∙ c.loop-path.invariant.0,
      owned_next txn c.loop-path.self txn.session c.as_slice-path-items.result.now c.loop-path.path-index c.path-item.result c.loop-path-test.true (sym c.path-item.is) c.loop-path.invariant.1 c.take.new.self c.take.ensures,
    )
