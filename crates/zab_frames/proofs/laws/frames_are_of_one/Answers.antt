use Rattle.zab_frames.proofs.StreamLaws.{frames_are_of_one}
use Rattle.zab_frames.proofs.laws.frames_are_of_one.Goals as goal

pub returns : goal.returns
returns c = frames_are_of_one
