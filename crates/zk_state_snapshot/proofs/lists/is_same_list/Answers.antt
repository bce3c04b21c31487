use Rattle.std.proofs.Common.{◌≡◌, List, [], drop, true, false, ap, sym, ◌∙◌, arith}
use Rattle.std.proofs.lemmas.List.{nil_from_length}
use Rattle.zk_acl.specs.Access.{same_acl}
use Rattle.zk_acl.specs.declared.acl.Acl.{Acl}
use Rattle.zk_state_snapshot.specs.Lists.{same_list}
use Rattle.zk_state_snapshot.proofs.Tables.{same_at_end, same_differs, same_ends, same_next}
use Rattle.zk_state_snapshot.proofs.lists.is_same_list.Goals as goal

pub returns-in_default : goal.returns-in_default
returns-in_default c =
    let ones = c.args.one.now in
    let at = c.loop-acl.acl-index in
    let none : c.loop-acl.others.now ≡ [] = nil_from_length c.loop-acl.others.now c.in_default.ensures.cases in
    same_ends ones at c.acl-item.result (same_list ones c.args.other.now) (omega arith) c.acl-item.is
    (sym (ap (λ (xs : List Acl). same_list (drop at ones) xs) none) ∙ c.loop-acl.invariant)

pub returns-then-not-is_same_acl : goal.returns-then-not-is_same_acl
returns-then-not-is_same_acl c =
    let ones = c.args.one.now in
    let at = c.loop-acl.acl-index in
    let parts = c.in-Some.ensures.cases.0 in
    let other : same_acl c.acl-item.result c.in-Some.first.now ≡ false = sym c.is_same_acl.ensures ∙ c.if-not-is_same_acl.true in
    same_differs ones at c.acl-item.result c.in-Some.first.now c.in-Some.rest.now (same_list ones c.args.other.now) (omega arith) c.acl-item.is
    (sym (ap (λ (xs : List Acl). same_list (drop at ones) xs) parts) ∙ c.loop-acl.invariant) other

pub loop-acl-preserved : goal.loop-acl-preserved
loop-acl-preserved c =
    let ones = c.args.one.now in
    let at = c.loop-acl.acl-index in
    let parts = c.in-Some.ensures.cases.0 in
    let same : same_acl c.acl-item.result c.in-Some.first.now ≡ true = sym c.is_same_acl.ensures ∙ c.if-not-is_same_acl.false in
    same_next ones at c.acl-item.result c.in-Some.first.now c.in-Some.rest.now (same_list ones c.args.other.now) (omega arith) c.acl-item.is
    (sym (ap (λ (xs : List Acl). same_list (drop at ones) xs) parts) ∙ c.loop-acl.invariant) same

pub returns : goal.returns
returns c =
    same_at_end c.args.one.now c.loop-acl.acl-index c.loop-acl.others.now c.is_empty.result (same_list c.args.one.now c.args.other.now) (omega arith) c.is_empty.ensures c.loop-acl.invariant
