use Rattle.std.proofs.Common.{sym, ap, ◌∙◌}
use Rattle.std.specs.FinMap as finite
use Rattle.zk_mend.specs.Digests.{tree_digest}
use Rattle.zk_replay.proofs.Tallied.{begun}
use Rattle.zk_replay.proofs.digests.Digests.begin.Goals as goal

pub returns : goal.returns
returns c = λ tally is.
    let nodes = c.args.table.now.state.nodes in
    begun c.args.self.now c.add.new.self tally c.args.newer.now nodes c.in_ok-sum.sum
    (c.in_ok-sum.ensures ∙ ap (λ m. tree_digest (finite.get m) nodes) (sym c.add.ensures.owners))
    c.add.ensures.sum
    (λ q. ap (λ m. finite.get m q) c.add.ensures.owners ∙ c.in_ok-follow.ensures q)
    c.add.ensures.count is
