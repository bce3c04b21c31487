use Rattle.std.proofs.Common.{rules}
use Rattle.std.proofs.lemmas.Fn.{always_returns_same}
use Rattle.std.specs.Ordering.{int_cmp}
use Rattle.zk_connections.proofs.SessionOrder.{searched}
use Rattle.zk_connections.proofs.client_sessions.position_of.Goals as goal

pub returns-clause-place : goal.returns-clause-place
returns-clause-place c = searched c.args.id c.args.sessions.now c.requires _ c.binary_search_by.ensures.bound (c.binary_search_by.ensures.position (λ it. int_cmp it.id c.args.id) (always_returns_same _ _ _ (λ a r f' k. search rules)))
