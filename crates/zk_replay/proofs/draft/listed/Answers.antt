use Rattle.std.proofs.Common.{◌≡◌, w64, to_z, of_z, drop, ◌+◌, rules, Some, sym, ap, subst, ◌∙◌}
use Rattle.zk_replay.specs.Bases.{listed}
use Rattle.zk_replay.proofs.Turning.{same_number, other_number, found, looked_on, not_listed}
use Rattle.zk_replay.proofs.draft.listed.Goals as goal

pub returns-then-access-number : goal.returns-then-access-number
returns-then-access-number c =
    let x = c.access-item.result in
    let accesses = c.args.accesses.now in
    let i = c.loop-access.access-index in
    let a : to_z w64 (of_z w64 x.number) ≡ x.number = search rules in
    let b : to_z w64 (of_z w64 c.args.number) ≡ c.args.number = search rules in
    let so_far = subst (λ number. listed accesses number ≡ listed (drop i accesses) number) b c.loop-access.invariant in
    ap Some c.in_ok-copy.ensures ∙ sym (found accesses i x c.args.number c.loop-access-test.true c.access-item.is (same_number x.number c.args.number a b c.if-access-number.true) so_far)

pub loop-access-preserved : goal.loop-access-preserved
loop-access-preserved c =
    let x = c.access-item.result in
    let accesses = c.args.accesses.now in
    let i = c.loop-access.access-index in
    let b : to_z w64 (of_z w64 c.args.number) ≡ c.args.number = search rules in
    let so_far = subst (λ number. listed accesses number ≡ listed (drop i accesses) number) b c.loop-access.invariant in
    subst (λ number. listed accesses number ≡ listed (drop (i + 1) accesses) number) (sym b)
    (looked_on accesses i x c.args.number c.loop-access-test.true c.access-item.is (other_number x.number c.args.number c.if-access-number.false) so_far)

pub returns : goal.returns
returns c =
    let accesses = c.args.accesses.now in
    let i = c.loop-access.access-index in
    let b : to_z w64 (of_z w64 c.args.number) ≡ c.args.number = search rules in
    let so_far = subst (λ number. listed accesses number ≡ listed (drop i accesses) number) b c.loop-access.invariant in
    sym (not_listed accesses i c.args.number c.loop-access-test.false so_far)
