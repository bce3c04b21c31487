use Rattle.std.proofs.Common.{ℤ, w64, to_z, of_z, subst}
use Rattle.std.proofs.lemmas.Int.{to_z-of_z}
use Rattle.zk_directory_state.proofs.Walking.{log_folds}
use Rattle.zk_directory_state.specs.Walks.{Folds, walk_log, walked_by}
use Rattle.zk_directory_state.proofs.walk.fold_log.Goals as goal

pub returns : goal.returns
returns g c =
    let follows = g.F.RecordFold.follows in
    let log = c.args.log in
    let old = walked_by c.args.walk.now in
    let new = walked_by c.fold_file.new.walk in
    let file = c.in_ok-file.file in
    let fold = c.args.fold.now in
    let now = c.fold_file.new.fold in
    let result = c.fold_file.result in
    log_folds follows log c.args.bytes.now old new file fold now result c.in_ok-file.ensures (subst (λ (z : ℤ). Folds follows (λ walk. walk_log z walk file) old fold new now result) (to_z-of_z w64 log c.ranges.log) c.fold_file.ensures)
