use Rattle.zk_machine.proofs.Roots.{keeps_root}
use Rattle.zk_machine.proofs.table.Table.apply.Goals as goal

pub new-requires-clause-root : goal.new-requires-clause-root
new-requires-clause-root c = keeps_root c.in_ok-deed.deed.touched c.run.new.self.nodes.tree c.args.self.now.nodes.tree c.in_ok-deed.ensures.nodes c.stands.ensures.root
