use Rattle.std.proofs.Common.{◌≡◌, ◌+◌, Some, None, rules, w32, w64, to_z, of_z, ap, sym, ◌∙◌, arith}
use Rattle.std.proofs.lemmas.Cmp.{nat_list_cmp_total}
use Rattle.std.specs.FinMap as finite
use Rattle.std.specs.Option.{option_copied_mut}
use Rattle.zk_table.specs.Nodes as nodes
use Rattle.zk_tree.proofs.Kept.{get-map_of, map_inserted, insert_same, path_cmp-IsAntisymmetric}
use Rattle.zk_fold.specs.Slots.{with_child, is_fit}
use Rattle.zk_fold.proofs.Counting.{changed_place}
use Rattle.zk_fold.proofs.node_table.NodeTable.add_child.Goals as goal

pub returns-in_default-clause-fit : goal.returns-in_default-clause-fit
returns-in_default-clause-fit c =
    let none : finite.get c.args.self.now c.args.path.now ≡ None = ap (λ m. finite.get m c.args.path.now) (sym c.self.view_is) ∙ get-map_of c.self.inside.map c.args.path.now ∙ sym c.get_mut.ensures.value ∙ ap option_copied_mut c.in_default.is in
    ap is_fit (sym none)

pub returns-then-place-ne0-clause-fit : goal.returns-then-place-ne0-clause-fit
returns-then-place-ne0-clause-fit c =
    let there : finite.get c.args.self.now c.args.path.now ≡ Some c.in-Some.place.now = ap (λ m. finite.get m c.args.path.now) (sym c.self.view_is) ∙ get-map_of c.self.inside.map c.args.path.now ∙ sym c.in-Some.ensures.value in
    rw there (search rules)

pub returns-then-place-ne0-clause-unchanged : goal.returns-then-place-ne0-clause-unchanged
returns-then-place-ne0-clause-unchanged c =
    let there : finite.get c.args.self.now c.args.path.now ≡ Some c.in-Some.place.now = ap (λ m. finite.get m c.args.path.now) (sym c.self.view_is) ∙ get-map_of c.self.inside.map c.args.path.now ∙ sym c.in-Some.ensures.value in
    λ _.
    map_inserted c.args.path.now c.self.inside.map (c.get_mut.follows.lender _) _ ((c.get_mut.follows.holds _).3 (search rules))
    ∙ ap (λ m. finite.insert m c.args.path.now c.in-Some.place.now) c.self.view_is
    ∙ insert_same nat_list_cmp_total path_cmp-IsAntisymmetric c.args.self.now c.args.path.now c.in-Some.place.now there

pub overflow_add-place : goal.overflow_add-place
overflow_add-place c =
    let there : finite.get c.args.self.now c.args.path.now ≡ Some c.in-Some.place.now = ap (λ m. finite.get m c.args.path.now) (sym c.self.view_is) ∙ get-map_of c.self.inside.map c.args.path.now ∙ sym c.in-Some.ensures.value in
    let room = c.requires c.in-Some.place.now there in
    omega (arith, room)

pub returns-clause-fit : goal.returns-clause-fit
returns-clause-fit c =
    let there : finite.get c.args.self.now c.args.path.now ≡ Some c.in-Some.place.now = ap (λ m. finite.get m c.args.path.now) (sym c.self.view_is) ∙ get-map_of c.self.inside.map c.args.path.now ∙ sym c.in-Some.ensures.value in
    rw there (search rules)

pub returns-clause-counted : goal.returns-clause-counted
returns-clause-counted c =
    let zxid : to_z w64 (of_z w64 c.args.zxid) ≡ c.args.zxid = search rules in
    let count : to_z w32 (of_z w32 c.args.count) ≡ c.args.count = search rules in
    let told = c.add_child.ensures ∙ ap (λ z. nodes.with_child z (to_z w32 (of_z w32 c.args.count)) c.in-Some.place.now.node) zxid ∙ ap (λ k. nodes.with_child c.args.zxid k c.in-Some.place.now.node) count in
    let there : finite.get c.args.self.now c.args.path.now ≡ Some c.in-Some.place.now = ap (λ m. finite.get m c.args.path.now) (sym c.self.view_is) ∙ get-map_of c.self.inside.map c.args.path.now ∙ sym c.in-Some.ensures.value in
    λ _.
    map_inserted c.args.path.now c.self.inside.map (c.get_mut.follows.lender _) _ ((c.get_mut.follows.holds _).3 (search rules))
    ∙ ap (λ m. finite.insert m c.args.path.now (record c.in-Some.place.now { node = c.add_child.new.self; children = c.in-Some.place.now.children + 1 })) c.self.view_is
    ∙ changed_place c.args.self.now c.args.path.now (with_child c.args.zxid c.args.count) c.in-Some.place.now _ there (ap (λ n. record c.in-Some.place.now { node = n; children = c.in-Some.place.now.children + 1 }) told)
