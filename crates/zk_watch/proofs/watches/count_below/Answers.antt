use Rattle.std.proofs.Common.{rules}
use Rattle.std.proofs.lemmas.List.Sorted.{IsPartitionPoint-from_clause}
use Rattle.zk_watch.specs.Places.{is_below}
use Rattle.zk_watch.proofs.Ranges.{below_parted}
use Rattle.zk_watch.proofs.watches.count_below.Goals as goal

pub returns-clause-parted : goal.returns-clause-parted
returns-clause-parted c = IsPartitionPoint-from_clause (is_below c.args.path.now) c.args.watches.now _ c.partition_point.ensures.partitioned (below_parted c.args.path.now c.args.watches.now c.requires) (λ a r f' k. search rules)
