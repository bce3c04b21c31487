use Rattle.std.proofs.Common.{◌≡◌, map, sym, ap, ◌∙◌, arith}
use Rattle.std.specs.FinMap as finite
use Rattle.std.specs.String.{string_bytes}
use Rattle.zk_tree.proofs.Lists.{keys-set_of}
use Rattle.zk_replay.specs.Sums.{sum_over}
use Rattle.zk_replay.proofs.sums.digest_over.Goals as goal

pub loop-text-init : goal.loop-text-init
loop-text-init c =
    let owners = finite.get c.args.owners.now in
    let nodes = c.args.table.now.state.nodes in
    let left = map string_bytes c.into_iter-text-iterator.result in
    let same : sum_over owners nodes left ≡ sum_over owners nodes (finite.keys c.args.paths.now) =
    ap (sum_over owners nodes)
    (ap (map string_bytes) (c.into_iter-text-iterator.ensures.into_iter_gives ∙ c.iter-text-items.ensures.rest)
    ∙ sym (keys-set_of c.paths.inside.texts c.iter-text-items.ensures.ordered)
    ∙ ap finite.keys c.paths.view_is) in
    omega (arith, same)
