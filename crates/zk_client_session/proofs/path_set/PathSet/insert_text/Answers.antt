use Rattle.std.proofs.Common.{ap, ◌∙◌}
use Rattle.std.specs.FinMap as finite
use Rattle.std.specs.String.{string_bytes}
use Rattle.zk_tree.proofs.Kept.{set_inserted}
use Rattle.zk_client_session.proofs.path_set.PathSet.insert_text.Goals as goal

pub returns-clause-inserted : goal.returns-clause-inserted
returns-clause-inserted c =
    set_inserted (string_bytes c.args.text) c.self.inside.texts c.insert.new.self c.in_ok-insert.ensures.updates ∙ ap (λ s. finite.insert s (string_bytes c.args.text) tt) c.self.view_is
