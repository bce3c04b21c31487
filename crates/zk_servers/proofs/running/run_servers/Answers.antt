use Rattle.std.proofs.Common.{map}
use Rattle.zk_servers.proofs.Joining.{run_is}
use Rattle.zk_servers.proofs.running.run_servers.Goals as goal

pub returns : goal.returns
returns g c =
    run_is c.args.turns c.args.seats.items (map (λ list. list.items) c.args.jobs.items) c.in_ok-workers.workers.items c.in_ok-worked.worked.items
    c.in_ok-done.done.seats.items c.in_ok-done.done.receipts.items c.in_ok-done.done.passed.items c.in_ok-workers.ensures c.in_ok-worked.ensures c.in_ok-done.ensures
