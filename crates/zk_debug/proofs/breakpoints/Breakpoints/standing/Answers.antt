use Rattle.std.proofs.Common.{sym, ap, ◌∙◌}
use Rattle.std.specs.FinMap.{entries, entries-from_sorted}
use Rattle.std.specs.Ordering.{nat_cmp}
use Rattle.zk_debug.specs.Debugging.{Breakpoints}
use Rattle.zk_table.proofs.Sorted.{from_true}
use Rattle.zk_debug.proofs.breakpoints.Breakpoints.standing.Goals as goal

pub returns : goal.returns
returns c =
    sym (entries-from_sorted nat_cmp c.self.inside.standing.entries (from_true _ c.self.invariant.sorted))
    ∙ ap (λ (b : Breakpoints). entries b.standing) c.self.view_is
