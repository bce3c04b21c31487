use Rattle.std.proofs.Common.{ap, ◌∙◌}
use Rattle.std.specs.FinMap.{from_sorted}
use Rattle.std.specs.Ordering.{nat_cmp}
use Rattle.zk_table.proofs.Sorted.{nothing_kept}
use Rattle.zk_prepare.proofs.tracker.Tracker.new.Goals as goal

pub returns : goal.returns
returns c = ap (from_sorted {R = nat_cmp}) c.new.ensures.items ∙ nothing_kept nat_cmp
