use Rattle.std.proofs.Common.{◌≡◌, ◌<◌, rules, length, get_or, Err, sym, subst}
use Rattle.std.proofs.lemmas.Result.{err_from_is_err_and}
use Rattle.zk_commands.proofs.Gathered.{all_gathered, breaks_gathering}
use Rattle.zk_commands.specs.Later.{AppendsEntries}
use Rattle.zk_commands.proofs.later.push_entries.Goals as goal

pub returns-in_err-push_entry-clause-txns : goal.returns-in_err-push_entry-clause-txns
returns-in_err-push_entry-clause-txns c =
    let p = err_from_is_err_and c.from_residual.result c.from_residual.ensures.1 in
    let fault = c.in_err-push_entry.field-0.0 in
    let entries = c.args.entries.now in
    let start = c.args.chain.now in
    let txns = c.args.txns.now.items in
    let new = c.push_entry.new.chain in
    let now = c.push_entry.new.txns.items in
    let lt : c.loop-entry.entry-index < length entries = search rules in
    let is : c.entry-item.result ≡ get_or entries c.loop-entry.entry-index c.entry-item.result = search rules in
    let told : AppendsEntries entries start txns new now (Err fault) =
    breaks_gathering start txns entries c.loop-entry.entry-index c.loop-entry.chain new c.loop-entry.txns.items now c.entry-item.result fault lt is c.loop-entry.invariant c.in_err-push_entry.ensures.txns in
    subst (AppendsEntries entries start txns new now) (sym p.1) (subst (λ y. AppendsEntries entries start txns new now (Err y)) (sym p.2) told)

pub returns-clause-txns : goal.returns-clause-txns
returns-clause-txns c =
    all_gathered c.args.chain.now c.args.txns.now.items c.args.entries.now c.loop-entry.entry-index c.loop-entry.chain c.loop-entry.txns.items c.loop-entry-test.false c.loop-entry.invariant
