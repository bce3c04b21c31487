use Rattle.std.proofs.Common.{subst, ◌∙◌, FitsSigned, w64}
use Rattle.std.proofs.lemmas.Int.{to_z-of_z}
use Rattle.zk_directory_state.specs.Names.{snapshot_name}
use Rattle.zk_json_files.specs.Snapshots.{IsSnapshotLine}
use Rattle.zk_json_files.proofs.file_lines.push_snapshot.Goals as goal

pub returns-clause-line : goal.returns-clause-line
returns-clause-line g c =
    let zxid = c.args.zxid in
    let bytes = c.in_ok-bytes.bytes.items in
    let fits : FitsSigned w64 zxid = c.ranges.zxid in
    let named = simp to_z-of_z at c.in_ok-name.ensures in
    let pushed = simp to_z-of_z at c.in_ok-push_snapshot_line.ensures in
    let one = subst (λ n. IsSnapshotLine n zxid c.as_slice.result.now pushed.0) (c.as_str.ensures.value ∙ named) pushed.1 in (
      pushed.0,
      record {
        bytes = bytes;
        given = simp to_z-of_z at c.in_ok-bytes.ensures.given;
        is_line = subst (λ b. IsSnapshotLine (snapshot_name zxid) zxid b pushed.0) c.as_slice.ensures.value one;
      },
      pushed.2,
    )
