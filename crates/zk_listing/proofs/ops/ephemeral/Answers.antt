use Rattle.std.proofs.Common.{refl}
use Rattle.zk_listing.specs.Reading.{ephemeral_at, ephemeral_from}
use Rattle.zk_listing.proofs.FieldLaws.{nothing_in_front}
use Rattle.zk_listing.proofs.ops.ephemeral.Goals as goal

pub returns-in-None : goal.returns-in-None
unfolding ephemeral_at ephemeral_from
returns-in-None c = nothing_in_front ephemeral_from c.args.input.now.now refl c.in-None.ensures
