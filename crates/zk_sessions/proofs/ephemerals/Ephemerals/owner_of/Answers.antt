use Rattle.std.proofs.Common.{ap, ◌∙◌}
use Rattle.std.specs.BTreeMap.{is_at}
use Rattle.std.specs.Map.{lookup}
use Rattle.zk_table.specs.States.{path_cmp}
use Rattle.zk_sessions.proofs.Texts.{lookup_shown}
use Rattle.zk_sessions.proofs.ephemerals.Ephemerals.owner_of.Goals as goal

pub returns : goal.returns
returns c =
    c.copied.ensures
    ∙ c.get.ensures.value
    ∙ lookup_shown c.args.path.now c.self.inside.sessions.entries
    ∙ ap (lookup (is_at (path_cmp c.args.path.now))) c.self.view_is
