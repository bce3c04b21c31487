use Rattle.std.proofs.Common.{◌≡◌, ◌<◌, ℤ, rules, length, get_or, Err, w64, to_z, of_z, sym, subst}
use Rattle.std.proofs.lemmas.Int.{to_z-of_z}
use Rattle.std.proofs.lemmas.Result.{err_from_is_err_and}
use Rattle.zk_directory_state.proofs.Walking.{AreRunsTo, all_runs, breaks_runs}
use Rattle.zk_directory_state.specs.Walks.{Folds, walk_runs, walk_run, walked_by}
use Rattle.zk_directory_state.specs.declared.fault.HistoryFault.{HistoryFault}
use Rattle.zk_directory_state.proofs.walk.fold_runs.Goals as goal

pub returns-in_err-fold_run : goal.returns-in_err-fold_run
returns-in_err-fold_run g c =
    let p = err_from_is_err_and c.from_residual.result c.from_residual.ensures.1 in
    let follows = g.F.RecordFold.follows in
    let log = c.args.log in
    let runs = c.args.runs.now in
    let run = c.run-item.result in
    let start = walked_by c.args.walk.now in
    let old = walked_by c.loop-run.walk in
    let new = walked_by c.fold_run.new.walk in
    let fold = c.args.fold.now in
    let now = c.fold_run.new.fold in
    let fault = c.in_err-fold_run.field-0.0 in
    let lt : c.loop-run.run-index < length runs = search rules in
    let is : run ≡ get_or runs c.loop-run.run-index run = search rules in
    let so_far : AreRunsTo follows log start fold runs c.loop-run.run-index old c.loop-run.fold =
    subst (λ (z : ℤ). AreRunsTo follows z start fold runs c.loop-run.run-index old c.loop-run.fold) (to_z-of_z w64 log c.ranges.log) c.loop-run.invariant
    in
    let one : Folds follows (λ walk. walk_run log walk run) old c.loop-run.fold new now (Err fault) =
    subst (λ (z : ℤ). Folds follows (λ walk. walk_run z walk run) old c.loop-run.fold new now (Err fault)) (to_z-of_z w64 log c.ranges.log) c.in_err-fold_run.ensures
    in
    let told : Folds follows (λ walk. walk_runs log walk runs) start fold new now (Err fault) =
    breaks_runs follows log start fold runs c.loop-run.run-index old new c.loop-run.fold now run fault lt is so_far one
    in
    subst (Folds follows (λ walk. walk_runs log walk runs) start fold new now) (sym p.1) (subst (λ (y : HistoryFault). Folds follows (λ walk. walk_runs log walk runs) start fold new now (Err y)) (sym p.2) told)

pub returns : goal.returns
returns g c =
    let follows = g.F.RecordFold.follows in
    let log = c.args.log in
    let runs = c.args.runs.now in
    let start = walked_by c.args.walk.now in
    let old = walked_by c.loop-run.walk in
    let fold = c.args.fold.now in
    let so_far : AreRunsTo follows log start fold runs c.loop-run.run-index old c.loop-run.fold =
    subst (λ (z : ℤ). AreRunsTo follows z start fold runs c.loop-run.run-index old c.loop-run.fold) (to_z-of_z w64 log c.ranges.log) c.loop-run.invariant
    in
    all_runs follows log start fold runs c.loop-run.run-index old c.loop-run.fold c.loop-run-test.false so_far
