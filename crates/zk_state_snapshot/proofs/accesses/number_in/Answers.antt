use Rattle.std.proofs.Common.{◌≡◌, ◌∙◌, ℤ, List, Some, rules, true, false, w64, to_z, of_z, sym, ap, arith}
use Rattle.std.proofs.lemmas.Int.{to_z-of_z}
use Rattle.zk_acl.specs.declared.acl.Acl.{Acl}
use Rattle.zk_state_snapshot.specs.Lists.{number_in, same_list}
use Rattle.zk_state_snapshot.proofs.Tables.{number_ends, number_found, number_next}
use Rattle.zk_state_snapshot.proofs.accesses.number_in.Goals as goal

pub returns-then-is_same_list : goal.returns-then-is_same_list
returns-then-is_same_list c =
    let table = c.args.table.now in
    let acl = c.args.acl.now in
    let it = c.access-item.result in
    let same : same_list it.acl acl ≡ true = ap (λ (xs : List Acl). same_list xs acl) (sym c.as_slice.ensures) ∙ sym c.is_same_list.ensures ∙ c.if-is_same_list.true in
    let number : to_z w64 (of_z w64 it.number) ≡ it.number = to_z-of_z w64 it.number (search rules) in
    ap (λ (n : ℤ). Some n) number
    ∙ number_found table c.loop-access.access-index it acl (number_in table acl) (omega arith) c.access-item.is same c.loop-access.invariant

pub loop-access-preserved : goal.loop-access-preserved
loop-access-preserved c =
    let table = c.args.table.now in
    let acl = c.args.acl.now in
    let it = c.access-item.result in
    let other : same_list it.acl acl ≡ false = ap (λ (xs : List Acl). same_list xs acl) (sym c.as_slice.ensures) ∙ sym c.is_same_list.ensures ∙ c.if-is_same_list.false in
    number_next table c.loop-access.access-index it acl (number_in table acl) (omega arith) c.access-item.is other c.loop-access.invariant

pub returns : goal.returns
returns c =
    number_ends c.args.table.now c.loop-access.access-index c.args.acl.now (number_in c.args.table.now c.args.acl.now) (omega arith) c.loop-access.invariant
