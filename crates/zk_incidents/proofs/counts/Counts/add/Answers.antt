use Rattle.std.proofs.Common.{map, ap, ◌∙◌}
use Rattle.std.specs.BTreeMap.{insert_entry}
use Rattle.std.specs.String.{string_bytes}
use Rattle.zk_table.specs.States.{path_cmp}
use Rattle.zk_incidents.proofs.Texts.{insert_shown, shown}
use Rattle.zk_incidents.specs.Counts.{one_more}
use Rattle.zk_incidents.proofs.counts.Counts.add.Goals as goal

pub returns : goal.returns
returns c =
    let text = c.in_ok-text.text in
    let count = c.saturating_add-count.result in
    ap (map shown) c.in_ok-insert.ensures.entries
    ∙ insert_shown c.self.inside.counts.entries text count
    ∙ ap (λ m. insert_entry path_cmp m (string_bytes text) count) c.self.view_is
    ∙ ap (λ t. insert_entry path_cmp c.args.self.now t count) c.in_ok-text.ensures.ok
    ∙ ap (insert_entry path_cmp c.args.self.now c.args.text.now) (c.saturating_add-count.ensures ∙ ap one_more c.count_of.ensures)
