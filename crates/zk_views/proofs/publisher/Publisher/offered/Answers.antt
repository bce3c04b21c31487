use Rattle.std.proofs.Common.{subst}
use Rattle.zk_views.specs.Views.{IsPrefix, Publishing}
use Rattle.zk_views.proofs.Prefixes.{prefix_append}
use Rattle.zk_views.proofs.publisher.Publisher.offered.Goals as goal

pub returns-clause-begins : goal.returns-clause-begins
returns-clause-begins c = subst (λ (p : Publishing). IsPrefix p.published p.offered) c.self.view_is (prefix_append _ _)
