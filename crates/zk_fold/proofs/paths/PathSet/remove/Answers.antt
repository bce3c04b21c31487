use Rattle.std.proofs.Common.{ap, ◌∙◌}
use Rattle.std.specs.FinMap as finite
use Rattle.zk_tree.proofs.Kept.{set_removed}
use Rattle.zk_fold.proofs.paths.PathSet.remove.Goals as goal

pub returns : goal.returns
returns c = set_removed c.args.text.now c.self.inside.texts c.remove.new.self c.remove.ensures.updates ∙ ap (λ s. finite.remove s c.args.text.now) c.self.view_is
