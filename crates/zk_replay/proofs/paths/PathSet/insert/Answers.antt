use Rattle.std.proofs.Common.{ap, ◌∙◌}
use Rattle.std.specs.FinMap as finite
use Rattle.std.specs.String.{string_bytes}
use Rattle.zk_tree.proofs.Kept.{set_inserted}
use Rattle.zk_replay.proofs.paths.PathSet.insert.Goals as goal

pub returns : goal.returns
returns c =
    set_inserted (string_bytes c.in_ok-text.text) c.self.inside.texts c.insert.new.self c.in_ok-insert.ensures.updates
    ∙ ap (λ s. finite.insert s (string_bytes c.in_ok-text.text) tt) c.self.view_is
    ∙ ap (λ t. finite.insert c.args.self.now t tt) c.in_ok-text.ensures.ok
