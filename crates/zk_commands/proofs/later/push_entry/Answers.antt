use Rattle.std.proofs.Common.{◌∷◌, [], Err, sym, subst}
use Rattle.std.proofs.lemmas.Result.{err_from_is_err_and}
use Rattle.zk_directory.specs.Chains.{history_of}
use Rattle.zk_commands.proofs.Gathered.{rejected_gathered}
use Rattle.zk_commands.specs.Later.{AppendsEntries}
use Rattle.zk_commands.proofs.later.push_entry.Goals as goal

pub returns-in_err-take_entry-clause-txns : goal.returns-in_err-take_entry-clause-txns
returns-in_err-take_entry-clause-txns c =
    let p = err_from_is_err_and c.from_residual.result c.from_residual.ensures.1 in
    let fault = c.in_err-take_entry.field-0.0 in
    let txns = c.args.txns.now.items in
    let old = c.args.chain.now in
    let new = c.take_entry.new.chain in
    let entry = c.args.entry.now in
    let told : AppendsEntries (entry ∷ []) old txns new txns (Err fault) = rejected_gathered old new entry txns txns fault (history_of new) c.in_err-take_entry.ensures in
    subst (AppendsEntries (entry ∷ []) old txns new txns) (sym p.1) (subst (λ y. AppendsEntries (entry ∷ []) old txns new txns (Err y)) (sym p.2) told)
