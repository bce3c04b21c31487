use Rattle.std.proofs.Common.{ap, ◌∙◌}
use Rattle.std.specs.FinMap as finite
use Rattle.zk_tree.proofs.Lists.{len-set_of}
use Rattle.zk_fold.proofs.paths.PathSet.len.Goals as goal

pub returns : goal.returns
returns c = c.len.ensures.len ∙ len-set_of c.self.inside.texts c.len.ensures.ordered ∙ ap finite.len c.self.view_is
