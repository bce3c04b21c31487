use Rattle.std.proofs.Common.{◌≡◌, None, sym, ap, subst, ◌∙◌}
use Rattle.std.specs.FinMap as finite
use Rattle.zk_path.specs.Paths.{parent_of}
use Rattle.zk_table.specs.States.{NodeMap}
use Rattle.zk_tree.specs.Owners.{IsOwned}
use Rattle.zk_tree.specs.Views.{OwnerMap}
use Rattle.zk_tree.proofs.Owned.{owned-alone}
use Rattle.zk_fold.specs.Slots.{nodes_at, new_place, IsCounted}
use Rattle.zk_fold.proofs.Planting.{nodes_one, counted_alone}
use Rattle.zk_fold.proofs.node_index.NodeIndex.rooted.Goals as goal

pub invariant_of-result : goal.invariant_of-result
invariant_of-result c =
    let root = c.args.root in
    let node = c.args.node in
    let highest : parent_of root ≡ None = ap parent_of c.requires.root in
    let put : c.put.new.self ≡ finite.insert finite.empty root (new_place root node) = c.in_ok-put.ensures.there ∙ ap (λ m. finite.insert m root (new_place root node)) c.new-places.ensures in (
      subst IsCounted (sym put) (counted_alone root node highest),
      subst (λ (n : NodeMap). IsOwned n c.new.result) (sym (ap nodes_at put ∙ nodes_one root node highest)) (subst (λ (o : OwnerMap). IsOwned (finite.insert finite.empty root node) o) (sym c.new.ensures) (owned-alone root node c.requires.root c.requires.free)),
    )

pub returns : goal.returns
returns c =
    let root = c.args.root in
    let node = c.args.node in
    let highest : parent_of root ≡ None = ap parent_of c.requires.root in
    let put : c.put.new.self ≡ finite.insert finite.empty root (new_place root node) = c.in_ok-put.ensures.there ∙ ap (λ m. finite.insert m root (new_place root node)) c.new-places.ensures in
    ap nodes_at put ∙ nodes_one root node highest
