use Rattle.std.proofs.Common.{[], None}
use Rattle.std.proofs.lemmas.Cmp.{nat_list_cmp_total}
use Rattle.std.proofs.lemmas.Fn.{always_returns_same}
use Rattle.zk_table.specs.States.{path_cmp}
use Rattle.zk_machine.proofs.Search.{searched}
use Rattle.zk_machine.proofs.preimages.position_of.Goals as goal

pub returns-clause-place : goal.returns-clause-place
returns-clause-place c = searched nat_list_cmp_total ([], None) c.args.path.now c.args.notes.now c.requires _ c.binary_search_by.ensures.bound (c.binary_search_by.ensures.position (λ e. path_cmp e.0 c.args.path.now) (always_returns_same _ _ _ (λ a r f' k. (k.met.1, λ j. record { 0 = k.met.0 j }))))
