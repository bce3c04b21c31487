use Rattle.std.proofs.Common.{ap, ◌∙◌}
use Rattle.std.specs.FinMap as finite
use Rattle.std.specs.String.{string_bytes}
use Rattle.zk_tree.proofs.Kept.{map_inserted}
use Rattle.zk_requests.proofs.deltas.Deltas.set.Goals as goal

pub returns : goal.returns
returns c =
    map_inserted (string_bytes c.in_ok-key.key) c.self.inside.map c.insert.new.self c.args.shade c.in_ok-insert.ensures.updates
    ∙ ap (λ m. finite.insert m (string_bytes c.in_ok-key.key) c.args.shade) c.self.view_is
    ∙ ap (λ k. finite.insert c.args.self.now k c.args.shade) c.in_ok-key.ensures.ok
