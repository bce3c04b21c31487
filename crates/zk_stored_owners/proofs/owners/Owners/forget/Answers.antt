use Rattle.std.proofs.Common.{ap, ◌∙◌}
use Rattle.std.specs.FinMap as finite
use Rattle.zk_tree.proofs.Kept.{map_removed}
use Rattle.zk_stored_owners.proofs.owners.Owners.forget.Goals as goal

pub returns : goal.returns
returns c = map_removed c.args.path.now c.self.inside.map c.remove.new.self c.remove.ensures.updates ∙ ap (λ m. finite.remove m c.args.path.now) c.self.view_is
