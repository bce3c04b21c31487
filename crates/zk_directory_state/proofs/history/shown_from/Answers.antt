use Rattle.std.proofs.Common.{rules, pos, [], get_or, None, Ok, Err, w64, to_z, of_z, sym, subst}
use Rattle.std.proofs.lemmas.Result.{err_from_is_err_and}
use Rattle.zk_directory_state.proofs.Chosen.{failed, fails_without, passed_on, served}
use Rattle.zk_directory_state.specs.Histories.{ChoosesOf, Folders, TriesNext}
use Rattle.zk_directory_state.specs.declared.history.Next.{Next}
use Rattle.zk_directory_state.specs.declared.fault.HistoryFault.{HistoryFault}
use Rattle.zk_directory_state.proofs.history.shown_from.Goals as goal

pub returns-in_err-shown : goal.returns-in_err-shown
returns-in_err-shown g c =
    let folders : Folders = record { snapshot_bytes = g.S.Folder.bytes_in c.args.snapshots.now; log_bytes = g.L.Folder.bytes_in c.args.logs.now; held = c.args.held.now; logged = c.args.logged.now; upto = c.args.upto } in
    let begun = c.args.begun.now in
    let i = c.loop-zxid.zxid-index in
    let zxid = to_z w64 (of_z w64 (get_or begun i (pos 0))) in
    let p = err_from_is_err_and c.from_residual.result c.from_residual.ensures.1 in
    let fault = c.in_err-shown.field-0.0 in
    let told : ChoosesOf folders begun [] None (Err fault) = failed folders begun i zxid c.loop-zxid.over fault c.loop-zxid-test.true (search rules) c.loop-zxid.invariant (c.in_err-shown.ensures c.args.held.now) in
    subst (ChoosesOf folders begun [] None) (sym p.1) (subst (λ (y : HistoryFault). ChoosesOf folders begun [] None (Err y)) (sym p.2) told)

pub returns-in-Done : goal.returns-in-Done
returns-in-Done g c =
    let folders : Folders = record { snapshot_bytes = g.S.Folder.bytes_in c.args.snapshots.now; log_bytes = g.L.Folder.bytes_in c.args.logs.now; held = c.args.held.now; logged = c.args.logged.now; upto = c.args.upto } in
    let begun = c.args.begun.now in
    let i = c.loop-zxid.zxid-index in
    let zxid = to_z w64 (of_z w64 (get_or begun i (pos 0))) in
    let over = c.loop-zxid.over in
    served folders begun i zxid over c.in-Done.shown c.loop-zxid-test.true (search rules) c.loop-zxid.invariant
    (subst (λ (n : Next). TriesNext folders zxid over (Ok n)) c.in-Done.is (c.in_ok-shown.ensures c.args.held.now))

pub loop-zxid-preserved : goal.loop-zxid-preserved
loop-zxid-preserved g c =
    let folders : Folders = record { snapshot_bytes = g.S.Folder.bytes_in c.args.snapshots.now; log_bytes = g.L.Folder.bytes_in c.args.logs.now; held = c.args.held.now; logged = c.args.logged.now; upto = c.args.upto } in
    let begun = c.args.begun.now in
    let i = c.loop-zxid.zxid-index in
    let zxid = to_z w64 (of_z w64 (get_or begun i (pos 0))) in
    let over = c.loop-zxid.over in
    passed_on folders begun i zxid over c.in-More.next c.loop-zxid-test.true (search rules) c.loop-zxid.invariant
    (subst (λ (n : Next). TriesNext folders zxid over (Ok n)) c.in-More.is (c.in_ok-shown.ensures c.args.held.now))

pub returns-in_err-restored : goal.returns-in_err-restored
returns-in_err-restored g c =
    let folders : Folders = record { snapshot_bytes = g.S.Folder.bytes_in c.args.snapshots.now; log_bytes = g.L.Folder.bytes_in c.args.logs.now; held = c.args.held.now; logged = c.args.logged.now; upto = c.args.upto } in
    let begun = c.args.begun.now in
    let p = err_from_is_err_and c.from_residual-in_err-restored.result c.from_residual-in_err-restored.ensures.1 in
    let fault = c.in_err-restored.field-0.0 in
    let told : ChoosesOf folders begun [] None (Err fault) = fails_without folders begun c.loop-zxid.zxid-index c.loop-zxid.over fault c.loop-zxid-test.false c.loop-zxid.invariant (c.in_err-restored.ensures folders.snapshot_bytes) in
    subst (ChoosesOf folders begun [] None) (sym p.1) (subst (λ (y : HistoryFault). ChoosesOf folders begun [] None (Err y)) (sym p.2) told)
