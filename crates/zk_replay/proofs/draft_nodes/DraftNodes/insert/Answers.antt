use Rattle.std.proofs.Common.{ap, ◌∙◌}
use Rattle.std.specs.FinMap as finite
use Rattle.std.specs.String.{string_bytes}
use Rattle.zk_replay.proofs.Maps.{map_inserted}
use Rattle.zk_replay.proofs.draft_nodes.DraftNodes.insert.Goals as goal

pub returns-in-Ok-clause-inserted : goal.returns-in-Ok-clause-inserted
returns-in-Ok-clause-inserted c =
    map_inserted (string_bytes c.in_ok-text.text) c.self.inside.map c.insert.new.self _ c.in-Ok.ensures.updates
    ∙ ap (λ m. finite.insert m (string_bytes c.in_ok-text.text) c.args.node) c.self.view_is
    ∙ ap (λ k. finite.insert c.args.self.now k c.args.node) c.in_ok-text.ensures.ok
