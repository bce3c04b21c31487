use Rattle.std.proofs.Common.{◌≡◌, true, Ok, pos, w32, w64, to_z, of_z, rules, sym, ap, subst, ◌∙◌}
use Rattle.std.proofs.lemmas.Int.{to_z-of_z}
use Rattle.std.specs.Ordering.{int_eq}
use Rattle.zk_tree.specs.Owners.{with_owned, without_owned}
use Rattle.zk_fold.specs.Slots.{made}
use Rattle.zk_tree.specs.Views.{OwnerMap}
use Rattle.zk_fold.proofs.Making.{AreNodeIndex, either, put_told, put_nowhere, forest_free, forest_owned, forest_again, free_owner}
use Rattle.zk_fold.proofs.node_index.NodeIndex.put.Goals as goal

pub invariant_of-self : goal.invariant_of-self
invariant_of-self c =
    let m = c.self.inside.places in
    let owners = c.self.inside.owners in
    let none : int_eq c.args.node.owner (pos 0) ≡ true = free_owner c.args.node.owner (search rules) c.if-owner-eq0.true in
    either (AreNodeIndex owners) c.create.result c.create.new.self (made m c.args.path.now c.args.node (to_z w64 (of_z w64 c.args.zxid)) (to_z w32 (of_z w32 c.args.count))) m c.create.ensures.made c.create.ensures.unchanged (forest_free m owners c.args.path.now c.args.node (to_z w64 (of_z w64 c.args.zxid)) (to_z w32 (of_z w32 c.args.count)) c.self.invariant none) c.self.invariant

pub returns-then-owner-eq0 : goal.returns-then-owner-eq0
returns-then-owner-eq0 c =
    let zxid : to_z w64 (of_z w64 c.args.zxid) ≡ c.args.zxid = search rules in
    let count : to_z w32 (of_z w32 c.args.count) ≡ c.args.count = search rules in
    put_told c.create.result c.self.inside.places c.create.new.self c.args.path.now c.args.node _ _ c.args.zxid c.args.count c.args.self.now c.self.view_is zxid count c.create.ensures.made

pub returns-then-not-is_open : goal.returns-then-not-is_open
returns-then-not-is_open c = put_nowhere c.args.self.now c.args.path.now c.args.node c.args.zxid c.args.count (sym c.if-not-is_open.true ∙ c.is_open.ensures)

pub invariant_of-self-in-Ok : goal.invariant_of-self-in-Ok
invariant_of-self-in-Ok c =
    let m = c.self.inside.places in
    let owners = c.self.inside.owners in
    let path = c.args.path.now in
    let node = c.args.node in
    let owner : to_z w64 (of_z w64 node.owner) ≡ node.owner = to_z-of_z w64 node.owner (search rules) in
    let noted : c.add.new.self ≡ with_owned owners node.owner path = c.in_ok-add.ensures.noted ∙ ap (λ s. with_owned owners s c.text.result.now) owner ∙ ap (with_owned owners node.owner) c.text.ensures.text in
    subst (λ (o : OwnerMap). AreNodeIndex o c.create-2.new.self) (sym noted)
    (subst (AreNodeIndex (with_owned owners node.owner path)) (sym c.in-Ok.ensures.made) (forest_owned m owners path node (to_z w64 (of_z w64 c.args.zxid)) (to_z w32 (of_z w32 c.args.count)) c.self.invariant c.args.self.now c.self.view_is (sym c.if-not-is_open.false ∙ c.is_open.ensures)))

pub invariant_of-self-in_default : goal.invariant_of-self-in_default
invariant_of-self-in_default c =
    let m = c.self.inside.places in
    let owners = c.self.inside.owners in
    let path = c.args.path.now in
    let node = c.args.node in
    let owner : to_z w64 (of_z w64 node.owner) ≡ node.owner = to_z-of_z w64 node.owner (search rules) in
    let noted : c.add.new.self ≡ with_owned owners node.owner path = c.in_ok-add.ensures.noted ∙ ap (λ s. with_owned owners s c.text.result.now) owner ∙ ap (with_owned owners node.owner) c.text.ensures.text in
    let lost : c.lose.new.self ≡ without_owned (with_owned owners node.owner path) node.owner path = c.lose.ensures ∙ ap (λ s. without_owned c.add.new.self s c.text-in_default.result.now) owner ∙ ap (without_owned c.add.new.self node.owner) c.text-in_default.ensures.text ∙ ap (λ o. without_owned o node.owner path) noted in
    subst (λ (o : OwnerMap). AreNodeIndex o c.create-2.new.self) (sym lost)
    (subst (AreNodeIndex (without_owned (with_owned owners node.owner path) node.owner path)) (sym c.in_default.ensures.unchanged) (forest_again m owners path node.owner c.self.invariant c.args.self.now c.self.view_is (sym c.if-not-is_open.false ∙ c.is_open.ensures)))

pub returns : goal.returns
returns c =
    let zxid : to_z w64 (of_z w64 c.args.zxid) ≡ c.args.zxid = search rules in
    let count : to_z w32 (of_z w32 c.args.count) ≡ c.args.count = search rules in
    put_told (Ok tt) c.self.inside.places c.create-2.new.self c.args.path.now c.args.node _ _ c.args.zxid c.args.count c.args.self.now c.self.view_is zxid count c.in-Ok.ensures.made
