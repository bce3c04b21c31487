use Rattle.std.proofs.Common.{◌≡◌, ◌+◌, ◌==◌, ◌∙◌, false, ℤ, List, length, Err, Ok, sym, ap, subst}
use Rattle.std.proofs.lemmas.Result.{err_from_is_err_and}
use Rattle.zk_directory_state.proofs.Held.{chosen_at, holds, upto_fails}
use Rattle.zk_directory_state.specs.Histories.{FindsUpto, Holds, IsUpto, candidates}
use Rattle.zk_directory_state.specs.declared.fault.HistoryFault.{HistoryFault}
use Rattle.zk_directory_state.proofs.history.shown_of.Goals as goal

pub returns-in_err-zxid : goal.returns-in_err-zxid
returns-in_err-zxid g c =
    let snapshots = g.S.Folder.names_in c.args.snapshots.now in
    let snapshot_bytes = g.S.Folder.bytes_in c.args.snapshots.now in
    let logs = g.L.Folder.names_in c.args.logs.now in
    let log_bytes = g.L.Folder.bytes_in c.args.logs.now in
    let upto = c.args.upto in
    let held = c.in_ok-held.held.items in
    let logged = c.in_ok-logged.logged.items in
    let some : false ≡ (length held + length logged == 0) = cc in
    let p = err_from_is_err_and c.from_residual-in_err-zxid.result c.from_residual-in_err-zxid.ensures.1 in
    let fault = c.in_err-zxid.field-0.0 in
    let told : Holds snapshots snapshot_bytes logs log_bytes upto (Err fault) =
    upto_fails snapshots snapshot_bytes logs log_bytes upto held logged fault c.in_ok-held.ensures.given c.in_ok-logged.ensures.given some
    (subst (λ (l : List ℤ). FindsUpto log_bytes l upto (Err fault)) c.as_slice-3.ensures.value c.in_err-zxid.ensures)
    in
    subst (Holds snapshots snapshot_bytes logs log_bytes upto) (sym p.1) (subst (λ (y : HistoryFault). Holds snapshots snapshot_bytes logs log_bytes upto (Err y)) (sym p.2) told)

pub returns : goal.returns
returns g c =
    let snapshots = g.S.Folder.names_in c.args.snapshots.now in
    let snapshot_bytes = g.S.Folder.bytes_in c.args.snapshots.now in
    let logs = g.L.Folder.names_in c.args.logs.now in
    let log_bytes = g.L.Folder.bytes_in c.args.logs.now in
    let upto = c.args.upto in
    let held = c.in_ok-held.held.items in
    let logged = c.in_ok-logged.logged.items in
    let zxid = c.in_ok-zxid.zxid in
    let found = c.shown_from-found.result in
    let some : false ≡ (length held + length logged == 0) = cc in
    subst (Holds snapshots snapshot_bytes logs log_bytes upto) (sym c.proved.ensures)
    (holds snapshots snapshot_bytes logs log_bytes upto held logged zxid found c.in_ok-held.ensures.given c.in_ok-logged.ensures.given some
    (subst (λ (l : List ℤ). IsUpto log_bytes l upto (Ok zxid)) c.as_slice-3.ensures.value c.in_ok-zxid.ensures)
    (chosen_at snapshots snapshot_bytes logs log_bytes upto held c.as_slice-5.result.now logged c.as_slice-6.result.now zxid (candidates zxid held) c.as_slice-7.result.now found
    c.as_slice-5.ensures.value c.as_slice-6.ensures.value (c.as_slice-7.ensures.value ∙ c.in_ok-begun.ensures ∙ ap (candidates zxid) c.as_slice-4.ensures.value) c.shown_from-found.ensures))
