use Rattle.std.proofs.Common.{◌<◌, length, arith}
use Rattle.std.proofs.lemmas.Int.{ints}
use Rattle.zab_epoch.proofs.Weighing.{is_in, is_out}
use Rattle.zab_epoch.proofs.weighted.weight_of.Goals.{then-marks-index, else-marks-index}
use Rattle.zab_epoch.proofs.weighted.weight_of.Goals as goal

pub loop-index-preserved : goal.loop-index-preserved
loop-index-preserved c =
    let at = c.loop-index.index in
    let marked : at < length c.args.marks.now = omega arith in
    elim c.if-marks-index.branch [
      | then-marks-index w ↦ (
        omega (arith, is_in c.args.weights.now c.args.marks.now at c.loop-index-test.true marked w.if-marks-index.true),
        omega (arith, ints, c.type_inv.weights at),
      )
      | else-marks-index w ↦ (
        omega (arith, is_out c.args.weights.now c.args.marks.now at c.loop-index-test.true marked w.if-marks-index.false),
        omega arith,
      )
    ]
