use Rattle.std.proofs.Common.{◌≡◌, ◌<◌, ◌+◌, ℕ, ℤ, List, rules, length, get_or, Ok, Err, FitsSigned, w64, to_z, of_z, sym, subst, ap, ◌∙◌}
use Rattle.std.proofs.lemmas.Int.{to_z-of_z}
use Rattle.std.proofs.lemmas.Result.{err_from_is_err_and}
use Rattle.zk_directory_state.proofs.TakenFiles.{no_bytes}
use Rattle.zk_directory_state.proofs.Walking.{AreLogsTo, log_fails, next_log}
use Rattle.zk_directory_state.specs.Attempts.{log_at}
use Rattle.zk_directory_state.specs.Walks.{FoldsLog, FoldsLogs, walked_by}
use Rattle.zk_directory_state.specs.declared.fault.HistoryFault.{HistoryFault}
use Rattle.zk_directory_state.proofs.walk.fold_logs.Goals as goal

pub returns-in_err-fold_log : goal.returns-in_err-fold_log
returns-in_err-fold_log g c =
    let p = err_from_is_err_and c.from_residual.result c.from_residual.ensures.1 in
    let follows = g.F.RecordFold.follows in
    let logged = c.args.logged.now in
    let logs = c.args.logs.now in
    let i = c.loop-bytes.bytes-index in
    let start = walked_by c.args.walk.now in
    let old = walked_by c.loop-bytes.walk in
    let new = walked_by c.fold_log.new.walk in
    let fold = c.args.fold.now in
    let before = c.loop-bytes.fold in
    let now = c.fold_log.new.fold in
    let fault = c.in_err-fold_log.field-0.0 in
    let fits : FitsSigned w64 c.log_at.result = search rules in
    let named : to_z w64 (of_z w64 c.log_at.result) ≡ log_at logged i = to_z-of_z w64 c.log_at.result fits ∙ c.log_at.ensures ∙ ap (log_at logged) c.loop-bytes.invariant.counted in
    let one : FoldsLog follows (log_at logged i) (get_or logs i no_bytes).now old before new now (Err fault) =
    subst (λ (z : ℤ). FoldsLog follows z (get_or logs i no_bytes).now old before new now (Err fault)) named c.in_err-fold_log.ensures
    in
    let told : FoldsLogs follows logged logs start fold new now (Err fault) = log_fails follows logged start old new fold before now logs i fault c.loop-bytes-test.true c.loop-bytes.invariant.folded one in
    subst (FoldsLogs follows logged logs start fold new now) (sym p.1) (subst (λ (y : HistoryFault). FoldsLogs follows logged logs start fold new now (Err y)) (sym p.2) told)

pub loop-bytes-preserved : goal.loop-bytes-preserved
loop-bytes-preserved g c =
    let follows = g.F.RecordFold.follows in
    let logged = c.args.logged.now in
    let logs = c.args.logs.now in
    let i = c.loop-bytes.bytes-index in
    let start = walked_by c.args.walk.now in
    let old = walked_by c.loop-bytes.walk in
    let new = walked_by c.fold_log.new.walk in
    let fold = c.args.fold.now in
    let before = c.loop-bytes.fold in
    let now = c.fold_log.new.fold in
    let fits : FitsSigned w64 c.log_at.result = search rules in
    let named : to_z w64 (of_z w64 c.log_at.result) ≡ log_at logged i = to_z-of_z w64 c.log_at.result fits ∙ c.log_at.ensures ∙ ap (log_at logged) c.loop-bytes.invariant.counted in
    let one : FoldsLog follows (log_at logged i) (get_or logs i no_bytes).now old before new now (Ok tt) =
    subst (λ (z : ℤ). FoldsLog follows z (get_or logs i no_bytes).now old before new now (Ok tt)) named c.in_ok-fold_log.ensures
    in
    record {
      counted = ap (λ (n : ℕ). n + 1) c.loop-bytes.invariant.counted;
      folded = next_log follows logged start fold logs i old new before now c.loop-bytes-test.true c.loop-bytes.invariant.folded one;
    }
