use Rattle.std.proofs.Common.{List, drop, ◌∙◌}
use Rattle.std.proofs.lemmas.Result.{MatchResult-weaker}
use Rattle.zk_table.specs.declared.txn.Txn.{Txn}
use Rattle.zk_views.proofs.Prefixes.{appended, goes_on}
use Rattle.zk_views.proofs.Steps.{publishes}
use Rattle.zk_views.proofs.publisher.show_all.Goals as goal

pub publish_as-requires : goal.publish_as-requires
publish_as-requires g c next is =
    let w = c.args.writer in publishes _ _ w.desk.shown.value next (goes_on w.desk.shown.value (drop w.behind w.log.items) next is)

pub returns-clause-shown : goal.returns-clause-shown
returns-clause-shown g c =
    let shown : List Txn = c.args.writer.desk.shown.value in
    let pending : List Txn = drop c.args.writer.behind c.args.writer.log.items in
    MatchResult-weaker c.publish_as.result.1 c.publish_as.ensures.values (λ _ made. (made.0 ∙ appended shown pending, made.1)) (λ _ _. tt)
