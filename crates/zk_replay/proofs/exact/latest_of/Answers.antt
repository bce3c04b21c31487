use Rattle.std.proofs.Common.{◌≡◌, w64, to_z, of_z, rules}
use Rattle.zk_replay.specs.Bases.{latest_of}
use Rattle.zk_replay.proofs.Turning.{latest_on, all_looked}
use Rattle.zk_replay.proofs.exact.latest_of.Goals as goal

pub loop-one-preserved : goal.loop-one-preserved
loop-one-preserved c =
    let r = c.latest_in-latest.result in
    let new : to_z w64 (of_z w64 r) ≡ r = search rules in
    let on = latest_on (to_z w64 c.loop-one.latest-bits) r (latest_of (to_z w64 (of_z w64 c.args.zxid)) c.args.stored.now) c.args.stored.now c.loop-one.one-index c.one-item.result c.loop-one-test.true c.one-item.is c.latest_in-latest.ensures c.loop-one.invariant in
    cc

pub returns : goal.returns
returns c =
    let zxid : to_z w64 (of_z w64 c.args.zxid) ≡ c.args.zxid = search rules in
    let all = all_looked (to_z w64 c.loop-one.latest-bits) (latest_of (to_z w64 (of_z w64 c.args.zxid)) c.args.stored.now) c.args.stored.now c.loop-one.one-index c.loop-one-test.false c.loop-one.invariant in
    cc
