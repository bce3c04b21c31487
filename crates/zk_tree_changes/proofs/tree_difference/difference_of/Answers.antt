use Rattle.std.proofs.Common.{refl}
use Rattle.zk_tree_changes.proofs.FoundDifferences.{difference_found}
use Rattle.zk_tree_changes.proofs.tree_difference.difference_of.Goals as goal

pub returns : goal.returns
returns g c =
    difference_found (g.S.Folder.names_in c.args.snapshots.now) (g.S.Folder.bytes_in c.args.snapshots.now) (g.L.Folder.names_in c.args.logs.now) (g.L.Folder.bytes_in c.args.logs.now) c.args.from c.args.to c.args.path.now
    c.in_ok-compared.compared (record { text = c.in_ok-text.text; notices = c.in_ok-compared.compared.notices }) c.in_ok-compared.ensures c.in_ok-text.ensures refl
