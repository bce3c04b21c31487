use Rattle.std.proofs.Common.{rules, pos, get_or, w64, to_z, of_z}
use Rattle.std.proofs.lemmas.Int.{to_z-of_z}
use Rattle.zk_directory_state.proofs.Chosen.{later_log}
use Rattle.zk_directory_state.specs.Histories.{IsLatestIn}
use Rattle.zk_directory_state.proofs.upto.zxid_at.Goals as goal

pub loop-log-preserved : goal.loop-log-preserved
loop-log-preserved g c =
    let bytes_in = g.L.Folder.bytes_in c.args.logs.now in
    let logged = c.args.logged.now in
    let i = c.loop-log.log-index in
    let log = to_z w64 (of_z w64 (get_or logged i (pos 0))) in
    let time = to_z w64 (of_z w64 c.args.time) in
    let old = to_z w64 c.loop-log.latest-bits in
    let new = c.in_ok-latest.latest in
    let one : IsLatestIn bytes_in log time old new = c.in_ok-latest.ensures.latest in
    λ latest rest. c.loop-log.invariant latest (later_log bytes_in time logged i log old new (to_z w64 (of_z w64 new)) latest c.loop-log-test.true (search rules) (to_z-of_z w64 new (search rules)) one rest)
