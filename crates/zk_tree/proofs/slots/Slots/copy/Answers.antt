use Rattle.std.proofs.Common.{◌∙◌}
use Rattle.zk_tree.proofs.Copies.{map_cloned}
use Rattle.zk_tree.proofs.slots.Slots.copy.Goals as goal

pub returns : goal.returns
returns c = map_cloned c.self.inside.map.entries c.in_ok-clone.field-0.entries c.in_ok-clone.ensures.cases ∙ c.self.view_is
