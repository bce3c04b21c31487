use Rattle.std.proofs.Common.{ap, ◌∙◌}
use Rattle.std.specs.BTreeMap.{is_at}
use Rattle.std.specs.Map.{lookup}
use Rattle.std.specs.Option.{unwrap_or}
use Rattle.zk_table.specs.States.{path_cmp}
use Rattle.zk_incidents.proofs.Texts.{lookup_shown}
use Rattle.zk_incidents.proofs.counts.Counts.count_of.Goals as goal

pub returns : goal.returns
returns c =
    c.unwrap_or.ensures
    ∙ ap (λ o. unwrap_or o 0)
    (c.copied.ensures
    ∙ c.get.ensures.value
    ∙ lookup_shown c.args.text.now c.self.inside.counts.entries
    ∙ ap (lookup (is_at (path_cmp c.args.text.now))) c.self.view_is)
