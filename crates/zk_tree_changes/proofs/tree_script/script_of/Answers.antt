use Rattle.zk_tree_changes.proofs.FoundScripts.{script_found}
use Rattle.zk_tree_changes.proofs.tree_script.script_of.Goals as goal

pub returns : goal.returns
returns g c =
    script_found (g.S.Folder.names_in c.args.snapshots.now) (g.S.Folder.bytes_in c.args.snapshots.now) (g.L.Folder.names_in c.args.logs.now) (g.L.Folder.bytes_in c.args.logs.now) c.args.upto c.args.path.now
    c.in_ok-shown.shown c.in_ok-text.text c.in_ok-notices.notices c.in_ok-shown.ensures c.in_ok-text.ensures c.in_ok-notices.ensures
