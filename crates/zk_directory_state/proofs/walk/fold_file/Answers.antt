use Rattle.std.proofs.Common.{ℤ, List, Ok, Err, w64, to_z, of_z, sym, subst, ◌∙◌, ap}
use Rattle.std.proofs.lemmas.Int.{to_z-of_z}
use Rattle.std.proofs.lemmas.Result.{err_from_is_err_and}
use Rattle.zk_directory.specs.declared.file.FileEntry.{FileEntry}
use Rattle.zk_directory.specs.declared.intact_log.Resumption.{Resumption}
use Rattle.zk_directory_state.proofs.Walking.{entries_break, file_folds, runs_break}
use Rattle.zk_directory_state.specs.Walks.{Folds, walk_entries, walk_log, walk_runs, walked_by, walked_to}
use Rattle.zk_directory_state.specs.declared.fault.HistoryFault.{HistoryFault}
use Rattle.zk_directory_state.proofs.walk.fold_file.Goals as goal

pub returns-in_err-fold_entries : goal.returns-in_err-fold_entries
returns-in_err-fold_entries g c =
    let p = err_from_is_err_and c.from_residual.result c.from_residual.ensures.1 in
    let follows = g.F.RecordFold.follows in
    let log = c.args.log in
    let file = c.args.file.now in
    let old = walked_by c.args.walk.now in
    let new = walked_by c.fold_entries.new.walk in
    let fold = c.args.fold.now in
    let now = c.fold_entries.new.fold in
    let fault = c.in_err-fold_entries.field-0.0 in
    let one : Folds follows (λ walk. walk_entries log walk file.first.entries.items) old fold new now (Err fault) =
    subst (λ (entries : List FileEntry). Folds follows (λ walk. walk_entries log walk entries) old fold new now (Err fault)) c.as_slice.ensures.value
    (subst (λ (z : ℤ). Folds follows (λ walk. walk_entries z walk c.as_slice.result.now) old fold new now (Err fault)) (to_z-of_z w64 log c.ranges.log) c.in_err-fold_entries.ensures)
    in
    let told : Folds follows (λ walk. walk_log log walk file) old fold new now (Err fault) = entries_break follows log old new file fold now fault one in
    subst (Folds follows (λ walk. walk_log log walk file) old fold new now) (sym p.1) (subst (λ (y : HistoryFault). Folds follows (λ walk. walk_log log walk file) old fold new now (Err y)) (sym p.2) told)

pub returns-in_err-fold_runs : goal.returns-in_err-fold_runs
returns-in_err-fold_runs g c =
    let p = err_from_is_err_and c.from_residual-in_err-fold_runs.result c.from_residual-in_err-fold_runs.ensures.1 in
    let follows = g.F.RecordFold.follows in
    let log = c.args.log in
    let file = c.args.file.now in
    let old = walked_by c.args.walk.now in
    let middle = walked_by c.fold_entries.new.walk in
    let new = walked_by c.fold_runs.new.walk in
    let fold = c.args.fold.now in
    let between = c.fold_entries.new.fold in
    let now = c.fold_runs.new.fold in
    let fault = c.in_err-fold_runs.field-0.0 in
    let one : Folds follows (λ walk. walk_entries log walk file.first.entries.items) old fold middle between (Ok tt) =
    subst (λ (entries : List FileEntry). Folds follows (λ walk. walk_entries log walk entries) old fold middle between (Ok tt)) c.as_slice.ensures.value
    (subst (λ (z : ℤ). Folds follows (λ walk. walk_entries z walk c.as_slice.result.now) old fold middle between (Ok tt)) (to_z-of_z w64 log c.ranges.log) c.in_ok-fold_entries.ensures)
    in
    let two : Folds follows (λ walk. walk_runs log walk file.later.items) middle between new now (Err fault) =
    subst (λ (runs : List Resumption). Folds follows (λ walk. walk_runs log walk runs) middle between new now (Err fault)) c.as_slice-2.ensures.value
    (subst (λ (z : ℤ). Folds follows (λ walk. walk_runs z walk c.as_slice-2.result.now) middle between new now (Err fault)) (to_z-of_z w64 log c.ranges.log) c.in_err-fold_runs.ensures)
    in
    let told : Folds follows (λ walk. walk_log log walk file) old fold new now (Err fault) = runs_break follows log old middle new file fold between now fault one two in
    subst (Folds follows (λ walk. walk_log log walk file) old fold new now) (sym p.1) (subst (λ (y : HistoryFault). Folds follows (λ walk. walk_log log walk file) old fold new now (Err y)) (sym p.2) told)

pub returns : goal.returns
returns g c =
    let follows = g.F.RecordFold.follows in
    let log = c.args.log in
    let file = c.args.file.now in
    let old = walked_by c.args.walk.now in
    let middle = walked_by c.fold_entries.new.walk in
    let last = walked_by c.fold_runs.new.walk in
    let new = walked_by c.note_end.new.self in
    let fold = c.args.fold.now in
    let between = c.fold_entries.new.fold in
    let now = c.fold_runs.new.fold in
    let one : Folds follows (λ walk. walk_entries log walk file.first.entries.items) old fold middle between (Ok tt) =
    subst (λ (entries : List FileEntry). Folds follows (λ walk. walk_entries log walk entries) old fold middle between (Ok tt)) c.as_slice.ensures.value
    (subst (λ (z : ℤ). Folds follows (λ walk. walk_entries z walk c.as_slice.result.now) old fold middle between (Ok tt)) (to_z-of_z w64 log c.ranges.log) c.in_ok-fold_entries.ensures)
    in
    let two : Folds follows (λ walk. walk_runs log walk file.later.items) middle between last now (Ok tt) =
    subst (λ (runs : List Resumption). Folds follows (λ walk. walk_runs log walk runs) middle between last now (Ok tt)) c.as_slice-2.ensures.value
    (subst (λ (z : ℤ). Folds follows (λ walk. walk_runs z walk c.as_slice-2.result.now) middle between last now (Ok tt)) (to_z-of_z w64 log c.ranges.log) c.in_ok-fold_runs.ensures)
    in
    file_folds follows log old middle last new file fold between now one two
    (c.note_end.ensures ∙ ap (λ (z : ℤ). walked_to z c.outcome_of.result last) (to_z-of_z w64 log c.ranges.log) ∙ ap (λ outcome. walked_to log outcome last) c.outcome_of.ensures)
