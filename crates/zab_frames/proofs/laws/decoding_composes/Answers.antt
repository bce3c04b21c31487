use Rattle.zab_frames.proofs.StreamLaws.{composes}
use Rattle.zab_frames.proofs.laws.decoding_composes.Goals as goal

pub returns : goal.returns
returns c = composes
