use Rattle.std.proofs.Common.{◌≡◌, w64, to_z, of_z, rules, ap, ◌∙◌}
use Rattle.zk_replay.specs.Rules.{delete_all}
use Rattle.zk_replay.proofs.Turns.{deletes_on, all_deleted}
use Rattle.zk_replay.proofs.rules.delete_all.Goals as goal

pub loop-path-preserved : goal.loop-path-preserved
loop-path-preserved c =
    let zxid = to_z w64 (of_z w64 c.args.zxid) in
    deletes_on c.loop-path.drafts c.delete.new.drafts (delete_all c.args.drafts.now zxid c.args.paths.now) zxid c.args.paths.now c.loop-path.path-index c.path-item.result c.loop-path-test.true c.path-item.is c.in_ok-delete.ensures c.loop-path.invariant

pub returns : goal.returns
returns c =
    let zxid = to_z w64 (of_z w64 c.args.zxid) in
    let same : zxid ≡ c.args.zxid = search rules in
    all_deleted c.loop-path.drafts (delete_all c.args.drafts.now zxid c.args.paths.now) zxid c.args.paths.now c.loop-path.path-index c.loop-path-test.false c.loop-path.invariant
    ∙ ap (λ z. delete_all c.args.drafts.now z c.args.paths.now) same
