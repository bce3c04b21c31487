use Rattle.std.proofs.Common.{◌≡◌, ◌≢◌, ◌<◌, ◌≤◌, rules, length, get_or, Err, sym, subst}
use Rattle.std.proofs.lemmas.Result.{err_from_is_err_and}
use Rattle.zk_directory.specs.declared.chain.Turn.TheVariants.{Stop}
use Rattle.zk_directory_state.proofs.Joined.{end_broken, entry_broken, one_taken, over_at}
use Rattle.zk_directory_state.specs.Restorations.{GoesThrough, IsAfterEntry}
use Rattle.zk_directory_state.proofs.restoration.Restore.take_file.Goals as goal

pub returns-in_err-next : goal.returns-in_err-next
returns-in_err-next c =
    let p = err_from_is_err_and c.from_residual.result c.from_residual.ensures.1 in
    let fault = c.in_err-next.field-0.0 in
    let items = c.args.file.now.entries.items in
    let lt : c.loop-entry.entry-index < length items = search rules in
    let is : c.entry-item.result ≡ get_or items c.loop-entry.entry-index c.entry-item.result = search rules in
    let told : GoesThrough c.args.self c.args.file.now (Err fault) = entry_broken c.args.self c.loop-entry.restore c.args.file.now c.loop-entry.entry-index c.entry-item.result fault lt is c.loop-entry.invariant c.in_err-next.ensures in
    subst (GoesThrough c.args.self c.args.file.now) (sym p.1) (subst (λ y. GoesThrough c.args.self c.args.file.now (Err y)) (sym p.2) told)

pub returns-then-eq : goal.returns-then-eq
returns-then-eq c =
    let items = c.args.file.now.entries.items in
    let lt : c.loop-entry.entry-index < length items = search rules in
    let is : c.entry-item.result ≡ get_or items c.loop-entry.entry-index c.entry-item.result = search rules in
    let stopped : c.in_ok-next.turn ≡ Stop = search rules in
    over_at c.args.self c.loop-entry.restore c.in_ok-next.next c.args.file.now c.loop-entry.entry-index c.entry-item.result lt is c.loop-entry.invariant
    (subst (IsAfterEntry c.loop-entry.restore c.entry-item.result c.in_ok-next.next) stopped c.in_ok-next.ensures)

pub loop-entry-preserved : goal.loop-entry-preserved
loop-entry-preserved c =
    let items = c.args.file.now.entries.items in
    let lt : c.loop-entry.entry-index < length items = search rules in
    let is : c.entry-item.result ≡ get_or items c.loop-entry.entry-index c.entry-item.result = search rules in
    let goes_on : c.in_ok-next.turn ≢ Stop = search rules in
    one_taken c.args.self c.loop-entry.restore c.in_ok-next.next c.args.file.now c.loop-entry.entry-index c.entry-item.result c.in_ok-next.turn lt is c.loop-entry.invariant c.in_ok-next.ensures goes_on

pub returns-in_err-check_end : goal.returns-in_err-check_end
returns-in_err-check_end c =
    let p = err_from_is_err_and c.from_residual-in_err-check_end.result c.from_residual-in_err-check_end.ensures.1 in
    let fault = c.in_err-check_end.field-0.0 in
    let items = c.args.file.now.entries.items in
    let le : length items ≤ c.loop-entry.entry-index = search rules in
    let told : GoesThrough c.args.self c.args.file.now (Err fault) = end_broken c.args.self c.loop-entry.restore c.args.file.now c.loop-entry.entry-index fault le c.loop-entry.invariant (sym c.in_err-check_end.ensures) in
    subst (GoesThrough c.args.self c.args.file.now) (sym p.1) (subst (λ y. GoesThrough c.args.self c.args.file.now (Err y)) (sym p.2) told)
