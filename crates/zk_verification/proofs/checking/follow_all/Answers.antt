use Rattle.std.proofs.Common.{pos, get_or, rules, w64, to_z, of_z}
use Rattle.zk_verification.proofs.Followed.{all_followed, next_followed}
use Rattle.zk_verification.proofs.checking.follow_all.Goals as goal

pub loop-zxid-preserved : goal.loop-zxid-preserved
loop-zxid-preserved g c =
    let zxids = c.args.zxids.now in
    let i = c.loop-zxid.zxid-index in
    let zxid = to_z w64 (of_z w64 (get_or zxids i (pos 0))) in
    next_followed c.args.said.now (g.S.Folder.bytes_in c.args.snapshots.now) c.args.breaks.now c.args.logged.now c.args.logs.now zxids i zxid c.args.marks.now.items c.loop-zxid.marks.items c.push.new.self.items c.loop-zxid.next c.next_after-next.result c.in_ok-mark.mark
    c.loop-zxid-test.true (search rules) c.in_ok-mark.ensures c.next_after-next.ensures c.in_ok-push.ensures.items c.loop-zxid.invariant

pub returns : goal.returns
returns g c =
    all_followed c.args.said.now (g.S.Folder.bytes_in c.args.snapshots.now) c.args.breaks.now c.args.logged.now c.args.logs.now c.args.zxids.now c.loop-zxid.zxid-index c.args.marks.now.items c.loop-zxid.marks.items c.loop-zxid.next c.loop-zxid-test.false c.loop-zxid.invariant
