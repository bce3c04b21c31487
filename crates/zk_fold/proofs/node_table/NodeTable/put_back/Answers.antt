use Rattle.std.proofs.Common.{◌≡◌, None, rules, is_some, ap, sym, ◌∙◌}
use Rattle.std.proofs.lemmas.Bool.{false≢true}
use Rattle.std.specs.FinMap as finite
use Rattle.std.specs.Option.{option_copied_mut}
use Rattle.zk_tree.proofs.Kept.{get-map_of, map_inserted}
use Rattle.zk_fold.proofs.node_table.NodeTable.put_back.Goals as goal

pub unreachable-requires : goal.unreachable-requires
unreachable-requires c =
    let none : finite.get c.args.self.now c.args.path.now ≡ None = ap (λ m. finite.get m c.args.path.now) (sym c.self.view_is) ∙ get-map_of c.self.inside.map c.args.path.now ∙ sym c.get_mut.ensures.value ∙ ap option_copied_mut c.in_default.is in
    false≢true (sym (ap is_some none) ∙ c.requires)

pub returns : goal.returns
returns c =
    map_inserted c.args.path.now c.self.inside.map (c.get_mut.follows.lender _) _ ((c.get_mut.follows.holds _).3 (search rules))
    ∙ ap (λ m. finite.insert m c.args.path.now c.args.place) c.self.view_is
