use Rattle.zk_table.proofs.Sorted.{sorted_from_entries}
use Rattle.zk_table.specs.States.{path_cmp}
use Rattle.zk_machine.proofs.undo.Undo.notes.Goals as goal

pub returns-clause-sorted : goal.returns-clause-sorted
returns-clause-sorted c = sorted_from_entries path_cmp _ _ c.as_slice.ensures.notes
