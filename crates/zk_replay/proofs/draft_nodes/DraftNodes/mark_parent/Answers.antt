use Rattle.std.proofs.Common.{◌≡◌, Some, None, rules, ap, sym, ◌∙◌}
use Rattle.std.specs.FinMap as finite
use Rattle.std.specs.Option.{option_copied_mut}
use Rattle.zk_tree.specs.Views.{map_of}
use Rattle.zk_replay.specs.Drafts.{as_parent}
use Rattle.zk_replay.proofs.Drafting.{changed_draft, missing_draft}
use Rattle.zk_replay.proofs.Maps.{get-map_of, map_inserted}
use Rattle.zk_replay.proofs.draft_nodes.DraftNodes.mark_parent.Goals as goal

pub returns-in_default : goal.returns-in_default
returns-in_default c =
    let none : finite.get c.args.self.now c.args.path.now ≡ None = ap (λ m. finite.get m c.args.path.now) (sym c.self.view_is) ∙ get-map_of c.self.inside.map c.args.path.now ∙ sym c.get_mut.ensures.value ∙ ap option_copied_mut c.in_default.is in
    ap (λ m. map_of m.entries) c.get_mut.follows.holds-at-none ∙ c.self.view_is ∙ missing_draft c.args.self.now c.args.path.now (as_parent) none

pub returns : goal.returns
returns c =
    let there : finite.get c.args.self.now c.args.path.now ≡ Some c.in-Some.draft.now = ap (λ m. finite.get m c.args.path.now) (sym c.self.view_is) ∙ get-map_of c.self.inside.map c.args.path.now ∙ sym c.in-Some.ensures.value in
    map_inserted c.args.path.now c.self.inside.map (c.get_mut.follows.lender _) _ ((c.get_mut.follows.holds _).3 (search rules))
    ∙ ap (λ m. finite.insert m c.args.path.now c.mark_parent.new.self) c.self.view_is
    ∙ changed_draft c.args.self.now c.args.path.now (as_parent) c.in-Some.draft.now c.mark_parent.new.self there (c.mark_parent.ensures)
