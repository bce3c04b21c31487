use Rattle.std.proofs.Common.{◌≡◌, ◌+◌, ◌-◌, ◌*◌, ◌∙◌, sym, ap, take, drop, arith}
use Rattle.zk_listing.proofs.FieldLaws.{no_end_in_step}
use Rattle.zk_listing.proofs.fields.steps_len.Goals as goal

pub loop-step-preserved : goal.loop-step-preserved
loop-step-preserved c =
    let start = 32 * c.loop-step.step in
    let one : start + 32 - start ≡ 32 = omega arith in
    no_end_in_step c.args.bytes.now _ start (32 * (c.loop-step.step + 1)) (omega (arith, c.loop-step-test.true)) (omega arith) (ap (λ n. take n (drop start c.args.bytes.now)) one) (sym c.has_end.ensures ∙ c.if-has_end.false) c.loop-step.invariant
