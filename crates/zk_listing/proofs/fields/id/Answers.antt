use Rattle.std.proofs.Common.{refl}
use Rattle.hex.specs.Hex.{decode_pairs}
use Rattle.zk_listing.specs.Reading.{id_at, id_from}
use Rattle.zk_listing.proofs.FieldLaws.{nothing_in_front}
use Rattle.zk_listing.proofs.fields.id.Goals as goal

pub returns-in-None-clause-takes : goal.returns-in-None-clause-takes
unfolding id_at id_from decode_pairs
returns-in-None-clause-takes c = nothing_in_front id_from c.args.input.now.now refl c.in-None.ensures
