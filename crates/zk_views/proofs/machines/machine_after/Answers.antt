use Rattle.zk_views.proofs.Trees.{grown}
use Rattle.zk_views.proofs.machines.machine_after.Goals as goal

pub returns : goal.returns
returns c =
    grown c.args.txns.now c.args.txn.now c.in_ok-machine.machine c.advance.new.machine c.in_ok-machine.ensures c.in_ok-advance.ensures.state c.in_ok-advance.ensures.runs
