use Rattle.zk_tree_changes.proofs.FoundDifferences.{moment_found}
use Rattle.zk_tree_changes.proofs.compared.moment_of.Goals as goal

pub returns : goal.returns
returns g c =
    moment_found (g.S.Folder.names_in c.args.snapshots.now) (g.S.Folder.bytes_in c.args.snapshots.now) (g.L.Folder.names_in c.args.logs.now) (g.L.Folder.bytes_in c.args.logs.now) c.args.upto
    c.in_ok-shown.shown c.in_ok-machine.machine c.in_ok-notices.notices c.in_ok-shown.ensures c.in_ok-machine.ensures c.in_ok-notices.ensures
