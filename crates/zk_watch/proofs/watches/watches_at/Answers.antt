use Rattle.zk_watch.proofs.Ranges.{in_turn, between}
use Rattle.zk_watch.proofs.watches.watches_at.Goals as goal

pub slice_bounds-result-count : goal.slice_bounds-result-count
slice_bounds-result-count c = in_turn c.args.path.now c.args.watches.now _ _ c.count_below-from.ensures.parted c.count_upto-to.ensures.parted c.count_below-from.ensures.within c.count_upto-to.ensures.within

pub slice_bounds-result-start : goal.slice_bounds-result-start
slice_bounds-result-start c = in_turn c.args.path.now c.args.watches.now _ _ c.count_below-from.ensures.parted c.count_upto-to.ensures.parted c.count_below-from.ensures.within c.count_upto-to.ensures.within

pub returns : goal.returns
returns c = between c.args.path.now c.args.watches.now _ _ c.count_below-from.ensures.parted c.count_upto-to.ensures.parted c.count_below-from.ensures.within c.count_upto-to.ensures.within
