use Rattle.std.proofs.Common.{◌≡◌, ◌≢◌, ℕ, List, [], sym, subst, ◌∙◌}
use Rattle.std.proofs.lemmas.Bool.{eqb-true}
use Rattle.std.proofs.lemmas.List.{nil_from_length}
use Rattle.zk_listing.specs.Promises.{BeginsWithListing}
use Rattle.zk_listing.proofs.LineLaws.{only_memory, only_listing, filled_from}
use Rattle.zk_listing.proofs.assembling.all_lines.Goals as goal

pub returns-in-Err-clause-only : goal.returns-in-Err-clause-only
returns-in-Err-clause-only c = λ ts listed e.
    let filled : c.lines.input.now ≢ [] = filled_from c.lines.input.now (sym c.is_empty.ensures ∙ c.lines-test.true) in
    only_memory c.in-Err.cause c.args.input.now.now c.lines.txns.items c.add_line.new.txns.items c.lines.input.now c.add_line.new.input.now c.lines.invariant filled c.in-Err.ensures ts listed e

pub returns-clause-only : goal.returns-clause-only
returns-clause-only c = λ ts listed e.
    let ended : c.lines.input.now ≡ [] = nil_from_length c.lines.input.now (eqb-true _ _ (sym c.is_empty.ensures ∙ c.lines-test.false)) in
    let begins : BeginsWithListing c.args.input.now.now c.lines.txns.items [] = subst (λ (r : List ℕ). BeginsWithListing c.args.input.now.now c.lines.txns.items r) ended c.lines.invariant in
    only_listing c.args.input.now.now c.lines.txns.items begins ts listed e
