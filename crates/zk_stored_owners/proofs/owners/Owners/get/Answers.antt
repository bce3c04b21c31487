use Rattle.std.proofs.Common.{ap, sym, ◌∙◌}
use Rattle.std.specs.FinMap as finite
use Rattle.zk_tree.proofs.Kept.{get-map_of}
use Rattle.zk_stored_owners.proofs.owners.Owners.get.Goals as goal

pub returns : goal.returns
returns c = c.copied.ensures ∙ c.get.ensures.value ∙ sym (get-map_of c.self.inside.map c.args.path.now) ∙ ap (λ m. finite.get m c.args.path.now) c.self.view_is
