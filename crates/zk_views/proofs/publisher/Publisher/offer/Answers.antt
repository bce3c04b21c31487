use Rattle.std.proofs.Common.{◌≡◌, List, ◌++◌, take, sym, ◌∙◌, subst}
use Rattle.zk_table.specs.declared.txn.Txn.{Txn}
use Rattle.zk_views.specs.Views.{LiesBetween}
use Rattle.zk_views.proofs.Outcomes.{on_err}
use Rattle.zk_views.proofs.Prefixes.{between}
use Rattle.zk_views.proofs.publisher.Publisher.offer.Goals as goal

pub returns-in_err-offer_one-clause-partly : goal.returns-in_err-offer_one-clause-partly
returns-in_err-offer_one-clause-partly c =
    let offered : List Txn = c.args.self.now.offered in
    let more : List Txn = c.args.more.now in
    let now : c.offer_one.new.self.offered ≡ offered ++ take c.loop-txn.txn-index more = c.in_err-offer_one.ensures.refused ∙ c.loop-txn.invariant.1 in
    on_err c.from_residual.result (subst (λ (l : List Txn). LiesBetween offered l (offered ++ more)) (sym now) (between offered more c.loop-txn.txn-index))
