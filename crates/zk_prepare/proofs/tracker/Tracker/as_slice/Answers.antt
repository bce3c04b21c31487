use Rattle.std.proofs.Common.{◌∙◌}
use Rattle.std.specs.Ordering.{nat_cmp}
use Rattle.zk_table.proofs.Sorted.{entries_of_kept}
use Rattle.zk_prepare.proofs.tracker.Tracker.as_slice.Goals as goal

pub returns : goal.returns
returns c = c.as_slice.ensures.value ∙ entries_of_kept nat_cmp _ _ c.self.invariant c.self.view_is
