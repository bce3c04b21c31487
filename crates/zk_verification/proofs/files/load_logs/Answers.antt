use Rattle.std.proofs.Common.{pos, get_or, rules, w64, to_z, of_z}
use Rattle.zk_verification.proofs.Loaded.{loaded_on}
use Rattle.zk_verification.specs.Verifications.{IsLoaded}
use Rattle.zk_verification.proofs.files.load_logs.Goals as goal

pub loop-zxid-preserved : goal.loop-zxid-preserved
loop-zxid-preserved g c =
    let bytes_in = g.F.Folder.bytes_in c.args.folder.now in
    let zxid = to_z w64 (of_z w64 (get_or c.args.logged.now c.loop-zxid.zxid-index (pos 0))) in
    let one : IsLoaded bytes_in zxid c.in_ok-log.log = c.in_ok-log.ensures in
    loaded_on bytes_in c.args.logged.now c.loop-zxid.zxid-index c.loop-zxid.logs.items c.push.new.self.items zxid c.in_ok-log.log c.loop-zxid-test.true c.loop-zxid.invariant one (search rules) c.in_ok-push.ensures.items
