use Rattle.std.proofs.Common.{◌∙◌}
use Rattle.zk_table.specs.States.{path_cmp}
use Rattle.zk_table.proofs.Sorted.{entries_of_kept}
use Rattle.zk_machine.proofs.preimages.Preimages.as_slice.Goals as goal

pub returns-clause-notes : goal.returns-clause-notes
returns-clause-notes c = c.as_slice.ensures.value ∙ entries_of_kept path_cmp _ _ c.self.invariant.0 c.self.view_is
