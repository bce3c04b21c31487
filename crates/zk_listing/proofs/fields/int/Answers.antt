use Rattle.std.specs.Int.{w32}
use Rattle.zk_listing.specs.Reading.{int_at, int_from}
use Rattle.zk_listing.proofs.DecimalLaws.{int_from-empty, narrow32}
use Rattle.zk_listing.proofs.FieldLaws.{nothing_in_front}
use Rattle.zk_listing.proofs.fields.int.Goals as goal

pub returns-in-None-clause-takes : goal.returns-in-None-clause-takes
unfolding int_at
returns-in-None-clause-takes c = nothing_in_front (int_from w32) c.args.input.now.now (int_from-empty w32 narrow32) c.in-None.ensures
