use Rattle.std.proofs.Common.{length}
use Rattle.zk_views.proofs.published_view.close_all.Given as goal

abbrev pub decreases-loop-kept : goal.decreases-loop-kept
decreases-loop-kept g l = length l.views.items
