use Rattle.std.proofs.Common.{map, ap, ◌∙◌}
use Rattle.std.specs.BTreeMap.{insert_entry}
use Rattle.std.specs.String.{string_bytes}
use Rattle.zk_incidents.proofs.Texts.{insert_shown, shown}
use Rattle.zk_table.specs.States.{path_cmp}
use Rattle.zk_tree_changes.proofs.paths.Paths.add.Goals as goal

pub returns : goal.returns
returns c =
    let text = c.in_ok-text.text in
    ap (map shown) c.in_ok-insert.ensures.entries
    ∙ insert_shown c.self.inside.paths.entries text tt
    ∙ ap (λ m. insert_entry path_cmp m (string_bytes text) tt) c.self.view_is
    ∙ ap (λ t. insert_entry path_cmp c.args.self.now t tt) c.in_ok-text.ensures.ok
