use Rattle.std.proofs.Common.{◌≡◌, rules, w64, to_z, of_z, ap}
use Rattle.std.proofs.lemmas.Int.{to_z-of_z}
use Rattle.zk_directory_state.proofs.Chosen.{latest_all}
use Rattle.zk_directory_state.specs.Histories.{latest_in}
use Rattle.zk_directory_state.proofs.upto.latest_in.Goals as goal

pub returns : goal.returns
returns c =
    let entries = c.args.entries.now in
    let latest = to_z w64 c.loop-entry.latest-bits in
    let time = to_z w64 (of_z w64 c.args.time) in
    let zxid = to_z w64 (of_z w64 c.args.zxid) in
    let same : latest ≡ c.loop-entry.latest = search rules in
    let all : latest ≡ latest_in time zxid entries = latest_all time zxid entries c.loop-entry.entry-index latest c.loop-entry-test.false c.loop-entry.invariant in
    let by_time : latest_in time zxid entries ≡ latest_in c.args.time zxid entries = ap (λ t. latest_in t zxid entries) (to_z-of_z w64 c.args.time c.ranges.time) in
    let by_zxid : latest_in c.args.time zxid entries ≡ latest_in c.args.time c.args.zxid entries = ap (λ z. latest_in c.args.time z entries) (to_z-of_z w64 c.args.zxid c.ranges.zxid) in
    cc
