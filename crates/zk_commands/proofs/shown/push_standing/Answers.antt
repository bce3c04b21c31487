use Rattle.std.proofs.Common.{ℕ, List, ◌++◌, take, sym, ap, ◌∙◌, append_assoc}
use Rattle.std.specs.List.{flat_map}
use Rattle.std.specs.String.{string_bytes}
use Rattle.zk_debug.specs.declared.breakpoint.Breakpoint.{Breakpoint}
use Rattle.zk_commands.specs.Shown.{breakpoint_line}
use Rattle.zk_commands.proofs.Parts.{one_more_line}
use Rattle.zk_commands.proofs.shown.push_standing.Goals as goal

pub loop-at-preserved : goal.loop-at-preserved
loop-at-preserved c =
    let es = c.args.standing.now.entries in
    let e : ℕ × Breakpoint = (c.in-Some.number.now, c.in-Some.breakpoint.now) in
    c.in_ok-push_breakpoint.ensures
    ∙ ap (λ (l : List ℕ). l ++ breakpoint_line e) c.loop-at.invariant
    ∙ append_assoc (string_bytes c.args.page.now) (flat_map breakpoint_line (take c.loop-at.at es)) (breakpoint_line e)
    ∙ ap (λ (l : List ℕ). string_bytes c.args.page.now ++ l) (one_more_line breakpoint_line es c.loop-at.at e (sym c.in-Some.ensures.entry))
