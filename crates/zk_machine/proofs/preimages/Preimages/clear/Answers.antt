use Rattle.std.proofs.Common.{ap, ◌∙◌}
use Rattle.std.specs.FinMap.{from_sorted}
use Rattle.zk_table.specs.States.{path_cmp}
use Rattle.zk_table.proofs.Sorted.{nothing_kept}
use Rattle.zk_machine.proofs.preimages.Preimages.clear.Goals as goal

pub returns : goal.returns
returns c = ap (from_sorted {R = path_cmp}) c.clear.ensures.items ∙ nothing_kept path_cmp
