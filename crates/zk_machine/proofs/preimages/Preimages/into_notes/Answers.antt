use Rattle.zk_table.specs.States.{path_cmp}
use Rattle.zk_table.proofs.Sorted.{entries_of_kept}
use Rattle.zk_machine.proofs.preimages.Preimages.into_notes.Goals as goal

pub returns : goal.returns
returns c = entries_of_kept path_cmp _ _ c.self.invariant.0 c.self.view_is
