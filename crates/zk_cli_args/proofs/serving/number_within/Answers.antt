use Rattle.std.proofs.Common.{◌∙◌, sym}
use Rattle.zk_cli_args.proofs.ServingLaws.{no_decimal, out_of_range, too_large}
use Rattle.zk_cli_args.proofs.serving.number_within.Goals as goal

pub returns-in_err-number : goal.returns-in_err-number
returns-in_err-number c =
    rw c.from_residual.ensures (λ n within. no_decimal c.args.least c.args.most c.args.word.now c.ranges.most.fits c.in_err-number.ensures n within)

pub returns-in_err-number-2 : goal.returns-in_err-number-2
returns-in_err-number-2 c =
    rw c.from_residual-in_err-number-2.ensures (λ n within.
    too_large c.try_from.result c.args.least c.args.most c.args.word.now c.in_ok-number.number c.ranges.most.fits c.in_ok-number.ensures c.try_from.ensures (sym c.ok.ensures.value ∙ c.in_err-number-2.was) n within)

pub returns-then-number-least : goal.returns-then-number-least
returns-then-number-least c = λ n within.
    out_of_range c.try_from.result c.args.least c.args.most c.in_ok-number-2.number c.args.word.now c.in_ok-number.number c.ranges.most.fits c.in_ok-number.ensures c.try_from.ensures
    (sym c.ok.ensures.value ∙ c.in_ok-number-2.was) c.then-number-least.either n within
