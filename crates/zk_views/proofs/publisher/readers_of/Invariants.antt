use Rattle.std.proofs.Common.{◌≡◌, replicate}
use Rattle.zk_views.specs.Views.{unentered}
use Rattle.zk_views.proofs.publisher.readers_of.Given as goal

abbrev pub invariant-loop : goal.invariant-loop
invariant-loop l = l.readers.items ≡ replicate l.counter (unentered l.writer.desk.place.table_id)
