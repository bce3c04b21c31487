use Rattle.std.proofs.Common.{refl, ap, ◌∙◌}
use Rattle.zk_machine.specs.Undoing.{sessions_before}
use Rattle.zk_machine.proofs.PreimageLaws.{begun_changes, begun_undone}
use Rattle.zk_machine.proofs.Timeouts.{closed_back}
use Rattle.zk_machine.proofs.table.Table.close_session.Goals as goal

pub returns-clause-changes : goal.returns-clause-changes
returns-clause-changes c = λ tells.
    begun_changes c.args.self.now.nodes.touched c.requires c.args.self.now.nodes.tree _ refl _ _ c.in_ok-take_owned.ensures.before _ (c.in_ok-deed.ensures.changes tells) _ c.deed.ensures.tree

pub returns-clause-nodes : goal.returns-clause-nodes
returns-clause-nodes c =
    begun_undone c.args.self.now.nodes.touched c.requires c.args.self.now.nodes.tree _ refl _ _ c.in_ok-take_owned.ensures.before _ c.in_ok-deed.ensures.touched _ c.deed.ensures.tree

pub returns-clause-sessions : goal.returns-clause-sessions
returns-clause-sessions c =
    ap (λ note. sessions_before note c.close-before.new.self) c.in_ok-deed.ensures.session
    ∙ closed_back c.args.self.now.sessions c.close-before.new.self _ _ c.close-before.ensures.before c.close-before.ensures.closed
