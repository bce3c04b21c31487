use Rattle.std.proofs.Common.{refl}
use Rattle.zk_listing.specs.Reading.{word_at, word_from}
use Rattle.zk_listing.proofs.FieldLaws.{nothing_in_front}
use Rattle.zk_listing.proofs.ops.next_word.Goals as goal

pub returns-in-None : goal.returns-in-None
unfolding word_at word_from
returns-in-None c = nothing_in_front word_from c.args.input.now.now refl c.in-None.ensures
