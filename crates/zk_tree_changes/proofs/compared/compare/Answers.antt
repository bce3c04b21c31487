use Rattle.std.proofs.Common.{Err, sym, subst}
use Rattle.std.proofs.lemmas.Result.{err_from_is_err_and}
use Rattle.zk_directory_state.specs.declared.fault.HistoryFault.{HistoryFault}
use Rattle.zk_tree_changes.proofs.FoundDifferences.{compared, no_new}
use Rattle.zk_tree_changes.specs.DifferenceReports.{FindsCompared}
use Rattle.zk_tree_changes.proofs.compared.compare.Goals as goal

pub returns-in_err-new : goal.returns-in_err-new
returns-in_err-new g c =
    let snapshots = g.S.Folder.names_in c.args.snapshots.now in
    let snapshot_bytes = g.S.Folder.bytes_in c.args.snapshots.now in
    let logs = g.L.Folder.names_in c.args.logs.now in
    let log_bytes = g.L.Folder.bytes_in c.args.logs.now in
    let p = err_from_is_err_and c.from_residual-in_err-new.result c.from_residual-in_err-new.ensures.1 in
    let fault = c.in_err-new.field-0.0 in
    let told : FindsCompared snapshots snapshot_bytes logs log_bytes c.args.from c.args.to (Err fault) = no_new snapshots snapshot_bytes logs log_bytes c.args.from c.args.to fault c.in_err-new.ensures in
    subst (FindsCompared snapshots snapshot_bytes logs log_bytes c.args.from c.args.to) (sym p.1) (subst (λ (y : HistoryFault). FindsCompared snapshots snapshot_bytes logs log_bytes c.args.from c.args.to (Err y)) (sym p.2) told)

pub returns : goal.returns
returns g c =
    let snapshots = g.S.Folder.names_in c.args.snapshots.now in
    let snapshot_bytes = g.S.Folder.bytes_in c.args.snapshots.now in
    let logs = g.L.Folder.names_in c.args.logs.now in
    let log_bytes = g.L.Folder.bytes_in c.args.logs.now in
    compared snapshots snapshot_bytes logs log_bytes c.args.from c.args.to c.in_ok-old.old c.in_ok-new.new c.in_ok-changes.changes c.follow_logged.new.changes c.in_ok-notices.notices
    c.in_ok-old.ensures c.in_ok-new.ensures c.in_ok-changes.ensures c.in_ok-follow_logged.ensures.followed c.in_ok-notices.ensures
