use Rattle.std.proofs.Common.{Err, sym, subst}
use Rattle.std.proofs.lemmas.Result.{err_from_is_err_and}
use Rattle.zk_comparison.proofs.Reported.{logs_kept, trees_unseen}
use Rattle.zk_comparison.specs.Reports.{FindsComparison}
use Rattle.zk_comparison.specs.Sources.{source_of}
use Rattle.zk_directory_state.specs.declared.fault.HistoryFault.{HistoryFault}
use Rattle.zk_comparison.proofs.comparison.compare_directories.Goals as goal

pub returns-in_err-compared : goal.returns-in_err-compared
returns-in_err-compared g c =
    let first = source_of (g.A.Folder.names_in c.args.first.now) (g.A.Folder.bytes_in c.args.first.now) (g.B.Folder.names_in c.args.first_logs.now) (g.B.Folder.bytes_in c.args.first_logs.now) in
    let second = source_of (g.C.Folder.names_in c.args.second.now) (g.C.Folder.bytes_in c.args.second.now) (g.D.Folder.names_in c.args.second_logs.now) (g.D.Folder.bytes_in c.args.second_logs.now) in
    let p = err_from_is_err_and c.from_residual.result c.from_residual.ensures.1 in
    let kept : FindsComparison first second (Err c.in_err-compared.field-0.0) = logs_kept first second c.in_err-compared.field-0.0 c.in_err-compared.ensures in
    subst (FindsComparison first second) (sym p.1) (subst (λ (fault : HistoryFault). FindsComparison first second (Err fault)) (sym p.2) kept)

pub returns-in_err-trees : goal.returns-in_err-trees
returns-in_err-trees g c =
    let first = source_of (g.A.Folder.names_in c.args.first.now) (g.A.Folder.bytes_in c.args.first.now) (g.B.Folder.names_in c.args.first_logs.now) (g.B.Folder.bytes_in c.args.first_logs.now) in
    let second = source_of (g.C.Folder.names_in c.args.second.now) (g.C.Folder.bytes_in c.args.second.now) (g.D.Folder.names_in c.args.second_logs.now) (g.D.Folder.bytes_in c.args.second_logs.now) in
    let p = err_from_is_err_and c.from_residual-in_err-trees.result c.from_residual-in_err-trees.ensures.1 in
    let unseen : FindsComparison first second (Err c.in_err-trees.field-0.0) = trees_unseen first second c.in_ok-compared.compared c.in_err-trees.field-0.0 c.in_ok-compared.ensures c.in_err-trees.ensures in
    subst (FindsComparison first second) (sym p.1) (subst (λ (fault : HistoryFault). FindsComparison first second (Err fault)) (sym p.2) unseen)
