use Rattle.std.proofs.lemmas.Int.{to_z-of_z}
use Rattle.std.proofs.Common.{◌≡◌, ◌≢◌, List, ℕ, [], sym, ◌∙◌}
use Rattle.std.proofs.lemmas.Result.{err_from_is_err_and}
use Rattle.std.specs.Prelude.{FitsSigned}
use Rattle.std.specs.Fmt.{signed_decimal}
use Rattle.std.specs.Int.{w64}
use Rattle.zk_listing.specs.Reading.{int_at}
use Rattle.zk_listing.proofs.AclLaws.{int_exact}
use Rattle.zk_listing.proofs.DecimalLaws.{narrow64}
use Rattle.zk_listing.proofs.ReportLineLaws.{is_filled, is_ended}
use Rattle.zk_debug.proofs.Words.{reads_whole, leaves_a_rest, refuses_field}
use Rattle.zk_debug.proofs.fields.long.Goals as goal

pub returns-in_err-long : goal.returns-in_err-long
returns-in_err-long c =
    let p = err_from_is_err_and c.from_residual.result c.from_residual.ensures.1 in
    rw (p.1, p.2) (refuses_field signed_decimal (FitsSigned w64) (int_at w64) (int_exact w64 narrow64) c.in_err-long.field-0.0 c.args.field.now c.read_long.new.input.now c.in_err-long.ensures.only)

pub returns-then-not-is_empty : goal.returns-then-not-is_empty
returns-then-not-is_empty c =
    let more : c.read_long.new.input.now ≢ [] = is_filled c.read_long.new.input.now (sym c.is_empty.ensures ∙ c.if-not-is_empty.true) in
    leaves_a_rest signed_decimal (FitsSigned w64) (int_at w64) (int_exact w64 narrow64) c.in_ok-long.long c.args.field.now c.read_long.new.input.now c.in_ok-long.ensures.only more

pub returns : goal.returns
returns c =
    let end : c.read_long.new.input.now ≡ [] = is_ended c.read_long.new.input.now (sym c.is_empty.ensures ∙ c.if-not-is_empty.false) in
    rw (to_z-of_z w64 c.in_ok-long.long c.in_ok-long.ensures.found.0) (reads_whole signed_decimal (FitsSigned w64) (int_at w64) (int_exact w64 narrow64) c.in_ok-long.long c.args.field.now c.read_long.new.input.now c.in_ok-long.ensures.found end)
