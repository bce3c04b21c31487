use Rattle.std.proofs.Common.{sym, ap, ◌∙◌}
use Rattle.std.proofs.lemmas.Result.{on_ok_weaker}
use Rattle.zk_tree_changes.proofs.Stamping.{stamped_more}
use Rattle.zk_tree_changes.specs.Changes.{Stamped, moved, parents, stamp_of, stamped}
use Rattle.zk_incidents.specs.Owners.{touched}
use Rattle.zk_tree_changes.proofs.last_changes.set_changed.Goals as goal

pub returns : goal.returns
returns c =
    let owned = c.args.owners.now in
    let newer = c.args.newer.now in
    on_ok_weaker c.set_parents.result
    (λ more. more ∙ ap (λ (m : Stamped). stamped m (stamp_of newer) (parents (moved owned newer))) c.in_ok-set_touched.ensures ∙ sym (stamped_more c.args.stamps.now (stamp_of newer) (touched owned newer) (parents (moved owned newer))))
    c.set_parents.ensures
