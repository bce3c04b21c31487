use Rattle.std.proofs.Common.{rules}
use Rattle.std.proofs.lemmas.List.Sorted.{IsPartitionPoint-from_clause}
use Rattle.zk_watch.specs.Places.{is_upto}
use Rattle.zk_watch.proofs.Ranges.{upto_parted}
use Rattle.zk_watch.proofs.watches.count_upto.Goals as goal

pub returns-clause-parted : goal.returns-clause-parted
returns-clause-parted c = IsPartitionPoint-from_clause (is_upto c.args.path.now) c.args.watches.now _ c.partition_point.ensures.partitioned (upto_parted c.args.path.now c.args.watches.now c.requires) (λ a r f' k. search rules)
