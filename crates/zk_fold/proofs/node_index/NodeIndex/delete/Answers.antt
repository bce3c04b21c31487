use Rattle.std.proofs.Common.{sym, ◌∙◌}
use Rattle.zk_fold.proofs.Deeds.{gone, kept, loose_there, loose_childless, loose_below}
use Rattle.zk_fold.proofs.node_index.NodeIndex.delete.Goals as goal

pub take-requires-clause-there : goal.take-requires-clause-there
take-requires-clause-there c = loose_there c.args.self.now c.args.path.now (sym c.is_loose.ensures ∙ c.if-is_loose.true)

pub take-requires-clause-childless : goal.take-requires-clause-childless
take-requires-clause-childless c = loose_childless c.args.self.now c.args.path.now (sym c.is_loose.ensures ∙ c.if-is_loose.true)

pub take-requires-clause-below : goal.take-requires-clause-below
take-requires-clause-below c = loose_below c.args.self.now c.args.path.now (sym c.is_loose.ensures ∙ c.if-is_loose.true)

pub returns-then-is_loose : goal.returns-then-is_loose
returns-then-is_loose c = c.take.ensures ∙ gone c.args.self.now c.args.txn.now c.args.path.now (sym c.is_loose.ensures ∙ c.if-is_loose.true)

pub returns-else-is_loose : goal.returns-else-is_loose
returns-else-is_loose c = kept c.args.self.now c.args.txn.now c.args.path.now (sym c.is_loose.ensures ∙ c.if-is_loose.false)
