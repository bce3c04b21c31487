use Rattle.std.proofs.Common.{ap, ◌∙◌}
use Rattle.std.specs.FinMap as finite
use Rattle.zk_tree.proofs.Kept.{set_removed}
use Rattle.zk_client_session.proofs.path_set.PathSet.remove.Goals as goal

pub returns : goal.returns
returns c = set_removed c.args.path.now c.self.inside.texts c.remove.new.self c.remove.ensures.updates ∙ ap (λ s. finite.remove s c.args.path.now) c.self.view_is
