use Rattle.std.proofs.Common.{map, ap, ◌∙◌}
use Rattle.std.specs.FinMap as finite
use Rattle.zk_tree.specs.Entries.{lent}
use Rattle.zk_replay.proofs.Whole.{whole_digest}
use Rattle.zk_replay.proofs.sums.table_digest.Goals as goal

pub returns : goal.returns
returns c =
    c.entries_digest.ensures
    ∙ whole_digest (finite.get c.args.owners.now) c.as_slice.result.now c.args.table.now.state.nodes (ap (map lent) c.as_slice.ensures.value ∙ c.in_ok-entries.ensures)
