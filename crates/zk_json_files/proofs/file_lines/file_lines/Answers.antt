use Rattle.std.proofs.Common.{arith, inl, refl, subst}
use Rattle.std.proofs.lemmas.Bool.Decides.{nat_tests}
use Rattle.std.specs.String.{string_bytes}
use Rattle.zk_json_files.proofs.Lines.{lists_of}
use Rattle.zk_json_files.specs.Files.{LinesOf}
use Rattle.zk_directory_state.specs.Names.{AreZxidsBy, log_zxid, snapshot_zxid}
use Rattle.zk_json_files.proofs.file_lines.file_lines.Goals as goal

pub returns-then-is_empty-2 : goal.returns-then-is_empty-2
returns-then-is_empty-2 g c = inl (
  record {
    snapshot_names = c.in_ok-names.names.items;
    log_names = c.in_ok-log_names.log_names.items;
    snapshots_given = c.in_ok-names.ensures.given;
    logs_given = c.in_ok-log_names.ensures.given;
    snapshot_zxids = c.in_ok-held.held.items;
    log_zxids = c.in_ok-logged.logged.items;
    are_snapshots = subst (λ n. AreZxidsBy (λ name. snapshot_zxid (string_bytes name)) n c.in_ok-held.held.items) c.as_slice.ensures.value c.in_ok-held.ensures;
    are_logs = subst (λ n. AreZxidsBy (λ name. log_zxid (string_bytes name)) n c.in_ok-logged.logged.items) c.as_slice-2.ensures.value c.in_ok-logged.ensures;
    none = let a = c.if-is_empty.ensures in let b = c.if-is_empty-2.ensures in grind (arith, nat_tests);
  },
  refl,
)

pub returns : goal.returns
returns g c =
    let held = c.in_ok-held.held.items in
    let logged = c.in_ok-logged.logged.items in
    let names = c.in_ok-names.names.items in
    let log_names = c.in_ok-log_names.log_names.items in
    let snapshot_bytes = g.S.Folder.bytes_in c.args.snapshots.now in
    let log_bytes = g.L.Folder.bytes_in c.args.logs.now in
    lists_of (g.S.Folder.names_in c.args.snapshots.now) (g.L.Folder.names_in c.args.logs.now) snapshot_bytes log_bytes names log_names held logged
    c.lines_of.result c.in_ok-names.ensures.given c.in_ok-log_names.ensures.given
    (subst (λ n. AreZxidsBy (λ name. snapshot_zxid (string_bytes name)) n held) c.as_slice.ensures.value c.in_ok-held.ensures)
    (subst (λ n. AreZxidsBy (λ name. log_zxid (string_bytes name)) n logged) c.as_slice-2.ensures.value c.in_ok-logged.ensures)
    (subst (λ h. LinesOf snapshot_bytes log_bytes h logged names log_names c.lines_of.result) c.as_slice-3.ensures.value
    (subst (λ l. LinesOf snapshot_bytes log_bytes c.as_slice-3.result.now l names log_names c.lines_of.result) c.as_slice-4.ensures.value
    (subst (λ n. LinesOf snapshot_bytes log_bytes c.as_slice-3.result.now c.as_slice-4.result.now n log_names c.lines_of.result) c.as_slice-5.ensures.value
    (subst (λ n. LinesOf snapshot_bytes log_bytes c.as_slice-3.result.now c.as_slice-4.result.now c.as_slice-5.result.now n c.lines_of.result) c.as_slice-6.ensures.value c.lines_of.ensures))))
