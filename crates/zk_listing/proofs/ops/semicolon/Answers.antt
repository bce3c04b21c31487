use Rattle.std.proofs.Common.{refl}
use Rattle.zk_listing.specs.Reading.{semicolon_from}
use Rattle.zk_listing.proofs.FieldLaws.{nothing_in_front}
use Rattle.zk_listing.proofs.ops.semicolon.Goals as goal

pub returns-in-None : goal.returns-in-None
unfolding semicolon_from
returns-in-None c = nothing_in_front semicolon_from c.args.input.now.now refl c.in-None.ensures
