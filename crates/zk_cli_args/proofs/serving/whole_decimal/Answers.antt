use Rattle.std.proofs.Common.{◌≡◌, ◌∙◌, sym, Some}
use Rattle.std.specs.Result.{result_ok}
use Rattle.zk_cli_args.proofs.ServingLaws.{leaves_more}
use Rattle.zk_cli_args.proofs.serving.whole_decimal.Goals as goal

pub returns-then-not-is_empty : goal.returns-then-not-is_empty
returns-then-not-is_empty c =
    let read : result_ok c.read_long.result ≡ Some c.in_ok-number.number = sym c.ok.ensures.value ∙ c.in_ok-number.was in
    leaves_more c.read_long.result c.in_ok-number.number c.args.word.now c.read_long.new.input.now c.read_long.ensures.only read c.if-not-is_empty.ensures
