use Rattle.std.proofs.Common.{rules, w64, to_z, of_z}
use Rattle.std.proofs.lemmas.Int.{to_z-of_z}
use Rattle.zk_directory_state.proofs.Chosen.{latest_of_log}
use Rattle.zk_directory_state.proofs.upto.zxid_in.Goals as goal

pub returns-clause-latest : goal.returns-clause-latest
returns-clause-latest g c =
    let latest = c.latest_in.result in
    latest_of_log (g.L.Folder.bytes_in c.args.logs.now) c.args.log (to_z w64 (of_z w64 c.args.log)) c.args.time (to_z w64 (of_z w64 c.args.time)) c.args.zxid (to_z w64 (of_z w64 c.args.zxid)) (to_z w64 (of_z w64 latest)) latest
    c.in_ok-bytes.bytes.items c.as_slice.result.now c.in_ok-file.file c.as_slice-2.result.now
    (to_z-of_z w64 c.args.log c.ranges.log) (to_z-of_z w64 c.args.time c.ranges.time) (to_z-of_z w64 c.args.zxid c.ranges.zxid) (to_z-of_z w64 latest (search rules))
    c.in_ok-bytes.ensures.given c.as_slice.ensures.value c.in_ok-file.ensures c.as_slice-2.ensures.value c.latest_in.ensures
