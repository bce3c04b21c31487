use Rattle.std.proofs.Common.{List, ◌++◌, sym, subst}
use Rattle.zk_table.specs.declared.txn.Txn.{Txn}
use Rattle.zk_views.specs.Views.{IsPrefix, Publishing}
use Rattle.zk_views.proofs.Outcomes.{begins_either}
use Rattle.zk_views.proofs.Prefixes.{prefix_append, prefix_same, prefix_trans}
use Rattle.zk_views.proofs.publisher.Publisher.publish.Goals as goal

pub returns-clause-grows : goal.returns-clause-grows
returns-clause-grows g c =
    let published : List Txn = c.args.self.now.published in
    let offered : List Txn = c.args.self.now.offered in
    let more : List Txn = c.args.more.now in
    let was : IsPrefix published offered = subst (λ (p : Publishing). IsPrefix p.published p.offered) c.self.view_is (prefix_append _ _) in
    let shown : IsPrefix published c.offer.new.self.offered =
    subst (λ (l : List Txn). IsPrefix published l) (sym c.in_ok-offer.ensures.offered) (prefix_trans published offered (offered ++ more) was (prefix_append offered more)) in
    let kept : IsPrefix published c.offer.new.self.published = subst (λ (l : List Txn). IsPrefix published l) (sym c.offer.ensures.published) (prefix_same published) in
    begins_either c.show.result published c.offer.new.self.offered c.offer.new.self.published c.show.new.self.published shown kept c.show.ensures.published c.show.ensures.refused
