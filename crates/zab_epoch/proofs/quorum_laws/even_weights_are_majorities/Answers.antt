use Rattle.zab_epoch.proofs.Evens.{heavy_is_majority}
use Rattle.zab_epoch.proofs.quorum_laws.even_weights_are_majorities.Goals as goal

pub returns : goal.returns
returns c = heavy_is_majority
