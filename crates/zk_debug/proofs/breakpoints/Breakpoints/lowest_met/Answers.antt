use Rattle.std.proofs.Common.{◌≤◌, sym, ap, subst, ◌∙◌}
use Rattle.std.specs.Prelude.{option_map}
use Rattle.zk_debug.specs.Breakpoints.{is_met}
use Rattle.zk_debug.specs.Debugging.{Breakpoints, lowest_by}
use Rattle.zk_debug.proofs.Numbering.{lowest_found, found_at, passed_over, none_left}
use Rattle.zk_debug.proofs.breakpoints.Breakpoints.lowest_met.Goals as goal

pub returns-then-is_met : goal.returns-then-is_met
returns-then-is_met c =
    let test = is_met c.args.txn.now c.args.applied.now.result.err c.args.applied.now.changes.items in
    let es = c.self.inside.standing.entries in
    ap (option_map (λ e. e.0)) (found_at test es c.loop-at.at (c.in-Some.number.now, c.in-Some.breakpoint.now) (sym c.in-Some.ensures.entry) c.loop-at.invariant (sym c.is_met.ensures ∙ c.if-is_met.true))
    ∙ lowest_found test es c.self.inside.numbered c.self.invariant
    ∙ ap (λ (b : Breakpoints). lowest_by test b.standing) c.self.view_is

pub loop-at-preserved : goal.loop-at-preserved
loop-at-preserved c =
    passed_over (is_met c.args.txn.now c.args.applied.now.result.err c.args.applied.now.changes.items) c.self.inside.standing.entries c.loop-at.at (c.in-Some.number.now, c.in-Some.breakpoint.now) (sym c.in-Some.ensures.entry) c.loop-at.invariant (sym c.is_met.ensures ∙ c.if-is_met.false)

pub returns : goal.returns
returns c =
    let test = is_met c.args.txn.now c.args.applied.now.result.err c.args.applied.now.changes.items in
    let es = c.self.inside.standing.entries in
    ap (option_map (λ e. e.0)) (none_left test es c.loop-at.at (subst (λ n. n ≤ c.loop-at.at) c.len-count.ensures.len c.loop-at-test.false) c.loop-at.invariant)
    ∙ lowest_found test es c.self.inside.numbered c.self.invariant
    ∙ ap (λ (b : Breakpoints). lowest_by test b.standing) c.self.view_is
