use Rattle.std.proofs.Common.{◌+◌, ◌≤◌, ◌<◌, length, map, ap, ◌∙◌, arith}
use Rattle.std.proofs.lemmas.List.{take_all}
use Rattle.zk_tree.proofs.Lending.{paths_lent}
use Rattle.zk_tree.proofs.branches.Branches.paths.Goals as goal

pub returns : goal.returns
returns c =
    let entries = c.as_slice-entry-items.result.now in
    c.loop-entry.invariant
    ∙ ap (map (λ e. e.path.now)) (take_all c.loop-entry.entry-index entries (omega arith) ∙ c.as_slice-entry-items.ensures.value)
    ∙ paths_lent c.args.self.now c.in_ok-entries.entries.items c.in_ok-entries.ensures
