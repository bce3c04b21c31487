use Rattle.std.proofs.Common.{◌≡◌, Some, None, rules, is_some, ap, sym, ◌∙◌}
use Rattle.std.proofs.lemmas.Bool.{false≢true}
use Rattle.std.specs.FinMap as finite
use Rattle.std.specs.Option.{option_copied_mut, option_map}
use Rattle.zk_tree.specs.Branches.{with_node}
use Rattle.zk_tree.proofs.Branching.{changed_slot}
use Rattle.zk_tree.proofs.Kept.{get-map_of, map_inserted}
use Rattle.zk_tree.proofs.slots.Slots.change.Goals as goal

pub unreachable-requires : goal.unreachable-requires
unreachable-requires c =
    let none : finite.get c.args.self.now c.args.path.now ≡ None = ap (λ m. finite.get m c.args.path.now) (sym c.self.view_is) ∙ get-map_of c.self.inside.map c.args.path.now ∙ sym c.get_mut.ensures.value ∙ ap option_copied_mut c.in_default.is in
    false≢true (sym (ap is_some none) ∙ c.requires)

pub returns-clause-changed : goal.returns-clause-changed
returns-clause-changed c =
    let there : finite.get c.args.self.now c.args.path.now ≡ Some c.in-Some.slot.now = ap (λ m. finite.get m c.args.path.now) (sym c.self.view_is) ∙ get-map_of c.self.inside.map c.args.path.now ∙ sym c.in-Some.ensures.value in
    map_inserted c.args.path.now c.self.inside.map (c.get_mut.follows.lender _) _ ((c.get_mut.follows.holds _).3 (search rules))
    ∙ ap (λ m. finite.insert m c.args.path.now (record c.in-Some.slot.now { node = c.replace.new.dest })) c.self.view_is
    ∙ changed_slot c.args.self.now c.args.path.now (with_node c.args.node) c.in-Some.slot.now _ there (ap (λ n. record c.in-Some.slot.now { node = n }) c.replace.ensures.after)

pub returns-clause-was : goal.returns-clause-was
returns-clause-was c =
    let there : finite.get c.args.self.now c.args.path.now ≡ Some c.in-Some.slot.now = ap (λ m. finite.get m c.args.path.now) (sym c.self.view_is) ∙ get-map_of c.self.inside.map c.args.path.now ∙ sym c.in-Some.ensures.value in
    ap (option_map (λ s. s.node)) there ∙ ap Some (sym c.replace.ensures.value)
