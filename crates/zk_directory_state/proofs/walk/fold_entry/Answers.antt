use Rattle.std.proofs.Common.{◌≡◌, true, false, ℤ, Result, Ok, Err, w64, to_z, of_z, sym, subst}
use Rattle.std.proofs.lemmas.Int.{to_z-of_z}
use Rattle.std.proofs.lemmas.Result.{err_from_is_err_and}
use Rattle.zk_directory_state.proofs.Walking.{rejected_folds, skipped_folds, taken_folds}
use Rattle.zk_directory_state.specs.Walks.{Folds, Steps, walk_entry, walked_by}
use Rattle.zk_directory_state.specs.declared.fault.HistoryFault.{HistoryFault}
use Rattle.zk_directory_state.proofs.walk.fold_entry.Goals as goal

pub returns-in_err-take : goal.returns-in_err-take
returns-in_err-take g c =
    let p = err_from_is_err_and c.from_residual.result c.from_residual.ensures.1 in
    let follows = g.F.RecordFold.follows in
    let log = c.args.log in
    let entry = c.args.entry.now in
    let old = walked_by c.args.walk.now in
    let new = walked_by c.take.new.self in
    let fold = c.args.fold.now in
    let fault = c.in_err-take.field-0.0 in
    let told : Folds follows (λ walk. walk_entry log walk entry) old fold new fold (Err fault) =
    rejected_folds follows log old new entry fold fold fault (subst (λ (z : ℤ). Steps z old entry new (Err fault)) (to_z-of_z w64 log c.ranges.log) c.in_err-take.ensures)
    in
    subst (Folds follows (λ walk. walk_entry log walk entry) old fold new fold) (sym p.1) (subst (λ (y : HistoryFault). Folds follows (λ walk. walk_entry log walk entry) old fold new fold (Err y)) (sym p.2) told)

pub returns-then-not-branch : goal.returns-then-not-branch
returns-then-not-branch g c =
    let log = c.args.log in
    let entry = c.args.entry.now in
    let old = walked_by c.args.walk.now in
    let new = walked_by c.take.new.self in
    let is : false ≡ c.in_ok-take.field-0 = cc in
    skipped_folds g.F.RecordFold.follows log old new entry c.in_ok-take.field-0 c.args.fold.now is (subst (λ (z : ℤ). Steps z old entry new (Ok c.in_ok-take.field-0)) (to_z-of_z w64 log c.ranges.log) c.in_ok-take.ensures)

pub returns : goal.returns
returns g c =
    let log = c.args.log in
    let entry = c.args.entry.now in
    let old = walked_by c.args.walk.now in
    let new = walked_by c.take.new.self in
    let is : true ≡ c.in_ok-take.field-0 = cc in
    taken_folds g.F.RecordFold.follows log old new entry c.in_ok-take.field-0 c.args.fold.now c.take-2.new.self is (subst (λ (z : ℤ). Steps z old entry new (Ok c.in_ok-take.field-0)) (to_z-of_z w64 log c.ranges.log) c.in_ok-take.ensures) c.in_ok-take-2.ensures
