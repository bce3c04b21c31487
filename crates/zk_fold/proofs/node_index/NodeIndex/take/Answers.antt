use Rattle.std.proofs.Common.{◌≡◌, ◌<◌, Some, true, is_some, length, w64, to_z, of_z, rules, sym, ap, subst, ◌∙◌}
use Rattle.std.proofs.lemmas.Bool.{false≢true}
use Rattle.std.specs.FinMap as finite
use Rattle.std.specs.Option.{ForSome}
use Rattle.zk_table.specs.Nodes as nodes
use Rattle.zk_table.specs.States.{children_of, parent_changed}
use Rattle.zk_tree.specs.Owners.{without_owned}
use Rattle.zk_tree.specs.Views.{OwnerMap}
use Rattle.zk_fold.specs.Slots.{SlotMap, nodes_at, place_changed, without_child}
use Rattle.zk_fold.proofs.Counting.{contains-nodes_at}
use Rattle.zk_fold.proofs.Making.{AreNodeIndex, child_left, forest_taken, nodes_taken}
use Rattle.zk_fold.proofs.node_index.NodeIndex.take.Goals as goal

pub unreachable-requires : goal.unreachable-requires
unreachable-requires c =
    let m = c.self.inside.places in
    let path = c.args.path.now in
    let here : finite.contains_key m path ≡ true = sym (contains-nodes_at m path) ∙ ap (λ n. finite.contains_key n path) c.self.view_is ∙ c.requires.there in
    false≢true (ap is_some (c.in_default.ensures.gone ∙ ap (finite.get m) c.text.ensures.text) ∙ here)

pub lose_child-requires : goal.lose_child-requires
lose_child-requires c =
    let m = c.self.inside.places in
    let path = c.args.path.now in
    let above = c.in-Some-parent.parent.now in
    let here : finite.contains_key m path ≡ true = sym (contains-nodes_at m path) ∙ ap (λ n. finite.contains_key n path) c.self.view_is ∙ c.requires.there in
    let rest : c.remove.new.self ≡ finite.remove m path = c.in-Some.ensures.rest ∙ ap (finite.remove m) c.text.ensures.text in
    subst (λ (t : SlotMap). ForSome (finite.get t above) (λ place. 0 < place.children)) (sym rest) (child_left m path above c.args.txn.now.zxid c.self.invariant.0 (sym c.in-Some-parent.ensures) here)

pub invariant_of-self : goal.invariant_of-self
invariant_of-self c =
    let m = c.self.inside.places in
    let owners = c.self.inside.owners in
    let path = c.args.path.now in
    let place = c.in-Some.place in
    let zxid = c.args.txn.now.zxid in
    let above = c.in-Some-parent.parent.now in
    let read : to_z w64 (of_z w64 zxid) ≡ zxid = search rules in
    let owner : to_z w64 (of_z w64 place.node.owner) ≡ place.node.owner = search rules in
    let found : Some place ≡ finite.get m path = c.in-Some.ensures.gone ∙ ap (finite.get m) c.text.ensures.text in
    let here : finite.contains_key m path ≡ true = ap is_some (sym found) in
    let rest : c.remove.new.self ≡ finite.remove m path = c.in-Some.ensures.rest ∙ ap (finite.remove m) c.text.ensures.text in
    let none : length (children_of (nodes_at m) path) ≡ 0 = ap (λ n. length (children_of n path)) c.self.view_is ∙ c.requires.childless in
    let left : c.lose_child.new.self ≡ place_changed (finite.remove m path) above (without_child zxid) = c.lose_child.ensures ∙ ap (λ z. place_changed c.remove.new.self above (without_child z)) read ∙ ap (λ s. place_changed s above (without_child zxid)) rest in
    let lost : c.lose.new.self ≡ without_owned owners place.node.owner path = c.lose.ensures ∙ ap (λ s. without_owned owners s c.text-2.result.now) owner ∙ ap (without_owned owners place.node.owner) c.text-2.ensures.text in
    subst (λ (o : OwnerMap). AreNodeIndex o c.lose_child.new.self) (sym lost)
    (subst (AreNodeIndex (without_owned owners place.node.owner path)) (sym left) (forest_taken m path above zxid c.self.invariant.0 (sym c.in-Some-parent.ensures) here owners place (sym found) c.self.invariant.1 none))

pub returns : goal.returns
returns c =
    let m = c.self.inside.places in
    let path = c.args.path.now in
    let zxid = c.args.txn.now.zxid in
    let above = c.in-Some-parent.parent.now in
    let read : to_z w64 (of_z w64 zxid) ≡ zxid = search rules in
    let found : Some c.in-Some.place ≡ finite.get m path = c.in-Some.ensures.gone ∙ ap (finite.get m) c.text.ensures.text in
    let here : finite.contains_key m path ≡ true = ap is_some (sym found) in
    let rest : c.remove.new.self ≡ finite.remove m path = c.in-Some.ensures.rest ∙ ap (finite.remove m) c.text.ensures.text in
    let left : c.lose_child.new.self ≡ place_changed (finite.remove m path) above (without_child zxid) = c.lose_child.ensures ∙ ap (λ z. place_changed c.remove.new.self above (without_child z)) read ∙ ap (λ s. place_changed s above (without_child zxid)) rest in
    ap nodes_at left
    ∙ nodes_taken m path above zxid c.self.invariant.0 (sym c.in-Some-parent.ensures) here
    ∙ ap (λ n. parent_changed (finite.remove n path) path (nodes.without_child zxid)) c.self.view_is
