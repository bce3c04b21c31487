use Rattle.std.proofs.Common.{refl, ap, ◌∙◌}
use Rattle.zk_machine.specs.Undoing.{sessions_before}
use Rattle.zk_machine.proofs.PreimageLaws.{begun_changes, begun_undone}
use Rattle.zk_machine.proofs.Timeouts.{opened_back}
use Rattle.zk_machine.proofs.table.Table.open_session.Goals as goal

pub returns-clause-changes : goal.returns-clause-changes
returns-clause-changes c = λ tells.
    begun_changes c.args.self.now.nodes.touched c.requires c.args.self.now.nodes.tree _ refl c.args.self.now.nodes.touched c.args.self.now.nodes.tree refl _ (c.in_ok-deed.ensures.changes tells) _ refl

pub returns-clause-nodes : goal.returns-clause-nodes
returns-clause-nodes c =
    begun_undone c.args.self.now.nodes.touched c.requires c.args.self.now.nodes.tree _ refl c.args.self.now.nodes.touched c.args.self.now.nodes.tree refl _ c.in_ok-deed.ensures.touched _ c.deed.ensures.tree

pub returns-clause-sessions : goal.returns-clause-sessions
returns-clause-sessions c =
    ap (λ note. sessions_before note c.open.new.self) c.in_ok-deed.ensures.session
    ∙ opened_back c.args.self.now.sessions c.open.new.self _ _ _ c.in_ok-before.ensures.before c.in_ok-before.ensures.opened
