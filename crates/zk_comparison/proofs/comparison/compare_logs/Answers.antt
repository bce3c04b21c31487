use Rattle.std.proofs.Common.{Err, inl, inr, sym, subst}
use Rattle.std.proofs.lemmas.Result.{err_from_is_err_and}
use Rattle.zk_comparison.specs.Reports.{FindsOfLogs}
use Rattle.zk_comparison.specs.Sources.{source_of}
use Rattle.zk_directory_state.specs.declared.fault.HistoryFault.{HistoryFault}
use Rattle.zk_comparison.proofs.comparison.compare_logs.Goals as goal

pub returns-in_err-ours : goal.returns-in_err-ours
returns-in_err-ours g c =
    let first = source_of (g.A.Folder.names_in c.args.first.now) (g.A.Folder.bytes_in c.args.first.now) (g.B.Folder.names_in c.args.first_logs.now) (g.B.Folder.bytes_in c.args.first_logs.now) in
    let second = source_of (g.C.Folder.names_in c.args.second.now) (g.C.Folder.bytes_in c.args.second.now) (g.D.Folder.names_in c.args.second_logs.now) (g.D.Folder.bytes_in c.args.second_logs.now) in
    let p = err_from_is_err_and c.from_residual.result c.from_residual.ensures.1 in
    let kept : FindsOfLogs first second (Err c.in_err-ours.field-0.0) = inl c.in_err-ours.ensures.none in
    subst (FindsOfLogs first second) (sym p.1) (subst (λ (fault : HistoryFault). FindsOfLogs first second (Err fault)) (sym p.2) kept)

pub returns-in_err-theirs : goal.returns-in_err-theirs
returns-in_err-theirs g c =
    let first = source_of (g.A.Folder.names_in c.args.first.now) (g.A.Folder.bytes_in c.args.first.now) (g.B.Folder.names_in c.args.first_logs.now) (g.B.Folder.bytes_in c.args.first_logs.now) in
    let second = source_of (g.C.Folder.names_in c.args.second.now) (g.C.Folder.bytes_in c.args.second.now) (g.D.Folder.names_in c.args.second_logs.now) (g.D.Folder.bytes_in c.args.second_logs.now) in
    let p = err_from_is_err_and c.from_residual-in_err-theirs.result c.from_residual-in_err-theirs.ensures.1 in
    let kept : FindsOfLogs first second (Err c.in_err-theirs.field-0.0) = inr c.in_err-theirs.ensures.none in
    subst (FindsOfLogs first second) (sym p.1) (subst (λ (fault : HistoryFault). FindsOfLogs first second (Err fault)) (sym p.2) kept)
