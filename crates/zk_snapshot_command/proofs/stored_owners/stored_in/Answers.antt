use Rattle.std.proofs.Common.{◌≡◌, w64, to_z, of_z}
use Rattle.std.proofs.lemmas.Int.{to_z-of_z}
use Rattle.zk_snapshot_command.proofs.Rereading.{reread}
use Rattle.zk_snapshot_command.proofs.stored_owners.stored_in.Goals as goal

pub returns-clause-unread : goal.returns-clause-unread
returns-clause-unread g c =
    let same : to_z w64 (of_z w64 c.args.zxid) ≡ c.args.zxid = to_z-of_z w64 c.args.zxid c.ranges.zxid in
    reread (g.S.Folder.bytes_in c.args.snapshots.now) c.args.zxid _ c.in_ok-bytes.bytes.items c.as_slice.result.now c.in-Err.fault c.reread_fault.result same c.requires c.in_ok-bytes.ensures.given c.as_slice.ensures.value c.in-Err.ensures.exact c.reread_fault.ensures
