use Rattle.std.proofs.Common.{pos, get_or, rules, map, w64, to_z, of_z}
use Rattle.zk_directory_state.proofs.Chosen.{given_on}
use Rattle.zk_directory_state.specs.Logs.{items_of}
use Rattle.zk_directory_state.specs.Folders.{IsGiven}
use Rattle.zk_directory_state.specs.Names.{log_name}
use Rattle.zk_directory_state.proofs.logs.read_logs.Goals as goal

pub loop-zxid-preserved : goal.loop-zxid-preserved
loop-zxid-preserved g c =
    let zxid = to_z w64 (of_z w64 (get_or c.args.logged.now c.loop-zxid.zxid-index (pos 0))) in
    let one : IsGiven (g.F.Folder.bytes_in c.args.folder.now (log_name zxid)) c.in_ok-bytes.bytes.items = c.in_ok-bytes.ensures.given in
    given_on (g.F.Folder.bytes_in c.args.folder.now) c.args.logged.now c.loop-zxid.zxid-index (map items_of c.loop-zxid.loaded.items) (map items_of c.add_bytes.new.loaded.items) zxid c.in_ok-bytes.bytes.items c.loop-zxid-test.true c.loop-zxid.invariant one (search rules) c.in_ok-add_bytes.ensures
