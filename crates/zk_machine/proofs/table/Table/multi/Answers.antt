use Rattle.std.proofs.Common.{ap, ◌∙◌}
use Rattle.zk_machine.specs.Undoing.{nodes_before}
use Rattle.zk_machine.proofs.PreimageLaws.{before_nothing}
use Rattle.zk_machine.proofs.table.Table.multi.Goals as goal

pub returns-then-hold_error-clause-nodes : goal.returns-then-hold_error-clause-nodes
returns-then-hold_error-clause-nodes c = ap (λ t. nodes_before t c.args.self.now.nodes.tree) c.new-then-hold_error.ensures ∙ before_nothing c.args.self.now.nodes.tree
