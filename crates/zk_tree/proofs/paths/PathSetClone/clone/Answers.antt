use Rattle.std.proofs.Common.{◌∙◌}
use Rattle.zk_tree.proofs.Copies.{set_cloned}
use Rattle.zk_tree.proofs.paths.PathSetClone.clone.Goals as goal

pub returns : goal.returns
returns c = record { cases = set_cloned c.self.inside.texts.keys c.in_ok-clone.field-0.keys c.in_ok-clone.ensures.cases ∙ c.self.view_is }
