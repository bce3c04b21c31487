use Rattle.std.proofs.Common.{pos}
use Rattle.std.proofs.lemmas.Cmp.{nat_cmp_total}
use Rattle.std.proofs.lemmas.Fn.{always_returns_same}
use Rattle.std.specs.Ordering.{nat_cmp}
use Rattle.zk_machine.proofs.Search.{searched}
use Rattle.zk_machine.proofs.sessions.position_of.Goals as goal

pub returns-clause-place : goal.returns-clause-place
returns-clause-place c = searched nat_cmp_total (0, pos 0) c.args.session c.args.entries.now c.requires _ c.binary_search_by.ensures.bound (c.binary_search_by.ensures.position (λ e. nat_cmp e.0 c.args.session) (always_returns_same _ _ _ (λ a r f' k. (k.met.1, λ j. record { 0 = k.met.0 j }))))
