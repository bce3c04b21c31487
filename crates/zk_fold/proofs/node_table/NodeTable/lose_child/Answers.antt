use Rattle.std.proofs.Common.{◌≡◌, ◌-◌, Some, None, rules, w64, to_z, of_z, ap, sym, ◌∙◌, arith}
use Rattle.std.specs.FinMap as finite
use Rattle.std.specs.Option.{option_copied_mut}
use Rattle.zk_table.specs.Nodes as nodes
use Rattle.zk_tree.specs.Views.{map_of}
use Rattle.zk_tree.proofs.Kept.{get-map_of, map_inserted}
use Rattle.zk_fold.specs.Slots.{without_child}
use Rattle.zk_fold.proofs.Counting.{changed_place, missing_place}
use Rattle.zk_fold.proofs.node_table.NodeTable.lose_child.Goals as goal

pub returns-in_default : goal.returns-in_default
returns-in_default c =
    let none : finite.get c.args.self.now c.args.path.now ≡ None = ap (λ m. finite.get m c.args.path.now) (sym c.self.view_is) ∙ get-map_of c.self.inside.map c.args.path.now ∙ sym c.get_mut.ensures.value ∙ ap option_copied_mut c.in_default.is in
    ap (λ m. map_of m.entries) c.get_mut.follows.holds-at-none ∙ c.self.view_is ∙ missing_place c.args.self.now c.args.path.now (without_child c.args.zxid) none

pub overflow_sub-place : goal.overflow_sub-place
overflow_sub-place c =
    let there : finite.get c.args.self.now c.args.path.now ≡ Some c.in-Some.place.now = ap (λ m. finite.get m c.args.path.now) (sym c.self.view_is) ∙ get-map_of c.self.inside.map c.args.path.now ∙ sym c.in-Some.ensures.value in
    let some = c.requires c.in-Some.place.now there in
    omega (arith, some)

pub returns : goal.returns
returns c =
    let zxid : to_z w64 (of_z w64 c.args.zxid) ≡ c.args.zxid = search rules in
    let there : finite.get c.args.self.now c.args.path.now ≡ Some c.in-Some.place.now = ap (λ m. finite.get m c.args.path.now) (sym c.self.view_is) ∙ get-map_of c.self.inside.map c.args.path.now ∙ sym c.in-Some.ensures.value in
    map_inserted c.args.path.now c.self.inside.map (c.get_mut.follows.lender _) _ ((c.get_mut.follows.holds _).3 (search rules))
    ∙ ap (λ m. finite.insert m c.args.path.now (record c.in-Some.place.now { node = c.lose_child.new.self; children = c.in-Some.place.now.children - 1 })) c.self.view_is
    ∙ changed_place c.args.self.now c.args.path.now (without_child c.args.zxid) c.in-Some.place.now _ there (ap (λ n. record c.in-Some.place.now { node = n; children = c.in-Some.place.now.children - 1 }) (c.lose_child.ensures ∙ ap (λ z. nodes.without_child z c.in-Some.place.now.node) zxid))
