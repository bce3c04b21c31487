use Rattle.std.proofs.Common.{refl}
use Rattle.zk_listing.specs.Reading.{content_at, content_from}
use Rattle.zk_listing.proofs.FieldLaws.{nothing_in_front}
use Rattle.zk_listing.proofs.fields.content.Goals as goal

pub returns-in-None : goal.returns-in-None
unfolding content_at content_from
returns-in-None c = nothing_in_front content_from c.args.input.now.now refl c.in-None.ensures
