use Rattle.std.proofs.Common.{◌≡◌, ◌<◌, length, true, false, ℕ, ◌-◌, List, Bool, Some, sym, ap, ◌∙◌, arith}
use lib.ListN.{get_or}
use Rattle.std.proofs.lemmas.List.{get_or_default, length-set}
use Rattle.zk_servers.specs.declared.record.Receipt.{Receipt}
use Rattle.zk_servers.specs.Closing.{Fits}
use Rattle.zk_servers.proofs.Scans.{all_more}
use Rattle.zk_servers.proofs.Marks.{marked_more, met_again}
use Rattle.zk_servers.proofs.fitting.first_unfit.Goals as goal

pub loop-at-preserved : goal.loop-at-preserved
loop-at-preserved c =
    let receipts : List Receipt = c.args.receipts.now in
    let met : List Bool = c.loop-at.met.items in
    let at : ℕ = c.loop-at.at in
    let place : ℕ = c.in-Some.place in
    let some = c.in-Some.ensures.some in
    let receipt : Receipt = some.0 in
    let long = c.loop-at.invariant.2 in
    let within : place < length met = omega (arith, long, some.3) in
    let new : get_or met place false ≡ false = get_or_default met place false c.index.result.now within ∙ sym c.index.ensures ∙ c.if-index.false in
    let marked = c.loop-at.invariant.1 in (
      all_more (Fits c.args.records.now receipts) at c.loop-at.invariant.0 (
        receipt,
        some.1,
        some.4,
        λ before other earlier is same.
            let back : other.number - 1 ≡ place = omega (arith, same, some.2) in
            cc (new, marked.kept before other earlier is, ap (λ n. get_or met n false) back),
      ),
      marked_more met receipts at place receipt within some.1 some.2 marked,
      length-set met place true ∙ long,
    )
