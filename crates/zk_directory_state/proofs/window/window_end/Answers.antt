use Rattle.std.proofs.Common.{◌≡◌, ◌<◌, ◌≤◌, ℤ, rules, length, w64, to_z, of_z, sym, ◌∙◌, subst}
use Rattle.std.proofs.lemmas.Int.{to_z-of_z}
use Rattle.zk_directory_state.proofs.Searching.{ends_at, next_searched, none_searched}
use Rattle.zk_directory_state.specs.Windows.{IsWindowEnd}
use Rattle.zk_directory_state.proofs.window.window_end.Goals as goal

pub loop-bytes-preserved : goal.loop-bytes-preserved
loop-bytes-preserved c =
    let logs = c.args.logs.now in
    let lt : c.loop-bytes.bytes-index < length logs = search rules in
    next_searched _ _ _ logs c.loop-bytes.bytes-index lt c.loop-bytes.invariant c.in_ok-take_log.ensures

pub returns-clause-end : goal.returns-clause-end
returns-clause-end c =
    let logs = c.args.logs.now in
    let contents = c.args.contents.now in
    let end = c.loop-bytes.search.end in
    let le : length logs ≤ c.loop-bytes.bytes-index = search rules in
    let same : to_z w64 (of_z w64 c.end_of.result) ≡ end = to_z-of_z w64 c.end_of.result (search rules) ∙ c.end_of.ensures in
    let zxid : to_z w64 (of_z w64 c.args.zxid) ≡ c.args.zxid = to_z-of_z w64 c.args.zxid c.ranges.zxid in
    let latest : to_z w64 (of_z w64 c.args.latest) ≡ c.args.latest = to_z-of_z w64 c.args.latest c.ranges.latest in
    subst (λ (v : ℤ). IsWindowEnd contents c.args.zxid c.args.latest logs v) (sym same)
    (subst (λ (v : ℤ). IsWindowEnd contents c.args.zxid v logs end) latest
    (subst (λ (v : ℤ). IsWindowEnd contents v (to_z w64 (of_z w64 c.args.latest)) logs end) zxid
    (ends_at _ _ _ logs c.loop-bytes.bytes-index _ le c.loop-bytes.invariant)))

pub loop-bytes-init : goal.loop-bytes-init
loop-bytes-init c = none_searched _ _ c.args.logs.now c.in_ok-search.ensures.start
