use Rattle.std.proofs.Common.{map, ap, ◌∙◌}
use Rattle.zk_sessions.proofs.Texts.{remove_shown, shown}
use Rattle.zk_sessions.specs.Ephemerals.{without_owner}
use Rattle.zk_sessions.proofs.ephemerals.Ephemerals.forget.Goals as goal

pub returns : goal.returns
returns c =
    ap (map shown) c.remove.ensures.entries
    ∙ remove_shown c.args.path.now c.self.inside.sessions.entries
    ∙ ap (λ owned. without_owner owned c.args.path.now) c.self.view_is
