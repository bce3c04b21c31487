use Rattle.std.proofs.Common.{◌≡◌, ◌<◌, ℤ, rules, length, get_or, Err, w64, to_z, of_z, sym, subst}
use Rattle.std.proofs.lemmas.Int.{to_z-of_z}
use Rattle.std.proofs.lemmas.Result.{err_from_is_err_and}
use Rattle.zk_directory_state.proofs.Walking.{AreFoldedTo, all_folded, breaks_folding}
use Rattle.zk_directory_state.specs.Walks.{Folds, walk_entries, walk_entry, walked_by}
use Rattle.zk_directory_state.specs.declared.fault.HistoryFault.{HistoryFault}
use Rattle.zk_directory_state.proofs.walk.fold_entries.Goals as goal

pub returns-in_err-fold_entry : goal.returns-in_err-fold_entry
returns-in_err-fold_entry g c =
    let p = err_from_is_err_and c.from_residual.result c.from_residual.ensures.1 in
    let follows = g.F.RecordFold.follows in
    let log = c.args.log in
    let entries = c.args.entries.now in
    let entry = c.entry-item.result in
    let start = walked_by c.args.walk.now in
    let old = walked_by c.loop-entry.walk in
    let new = walked_by c.fold_entry.new.walk in
    let fold = c.args.fold.now in
    let now = c.fold_entry.new.fold in
    let fault = c.in_err-fold_entry.field-0.0 in
    let lt : c.loop-entry.entry-index < length entries = search rules in
    let is : entry ≡ get_or entries c.loop-entry.entry-index entry = search rules in
    let so_far : AreFoldedTo follows log start fold entries c.loop-entry.entry-index old c.loop-entry.fold =
    subst (λ (z : ℤ). AreFoldedTo follows z start fold entries c.loop-entry.entry-index old c.loop-entry.fold) (to_z-of_z w64 log c.ranges.log) c.loop-entry.invariant
    in
    let one : Folds follows (λ walk. walk_entry log walk entry) old c.loop-entry.fold new now (Err fault) =
    subst (λ (z : ℤ). Folds follows (λ walk. walk_entry z walk entry) old c.loop-entry.fold new now (Err fault)) (to_z-of_z w64 log c.ranges.log) c.in_err-fold_entry.ensures
    in
    let told : Folds follows (λ walk. walk_entries log walk entries) start fold new now (Err fault) =
    breaks_folding follows log start fold entries c.loop-entry.entry-index old new c.loop-entry.fold now entry fault lt is so_far one
    in
    subst (Folds follows (λ walk. walk_entries log walk entries) start fold new now) (sym p.1) (subst (λ (y : HistoryFault). Folds follows (λ walk. walk_entries log walk entries) start fold new now (Err y)) (sym p.2) told)

pub returns : goal.returns
returns g c =
    let follows = g.F.RecordFold.follows in
    let log = c.args.log in
    let entries = c.args.entries.now in
    let start = walked_by c.args.walk.now in
    let old = walked_by c.loop-entry.walk in
    let fold = c.args.fold.now in
    let so_far : AreFoldedTo follows log start fold entries c.loop-entry.entry-index old c.loop-entry.fold =
    subst (λ (z : ℤ). AreFoldedTo follows z start fold entries c.loop-entry.entry-index old c.loop-entry.fold) (to_z-of_z w64 log c.ranges.log) c.loop-entry.invariant
    in
    all_folded follows log start fold entries c.loop-entry.entry-index old c.loop-entry.fold c.loop-entry-test.false so_far
