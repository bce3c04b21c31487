use Rattle.std.proofs.lemmas.Int.{to_z-of_z}
use Rattle.std.proofs.Common.{◌≡◌, ◌≢◌, List, ℕ, [], sym, ◌∙◌}
use Rattle.std.proofs.lemmas.Result.{err_from_is_err_and}
use Rattle.std.specs.Prelude.{FitsSigned}
use Rattle.std.specs.Int.{w64}
use Rattle.zk_listing.specs.Reading.{id_at}
use Rattle.zk_format.specs.Spelling.{id_digits}
use Rattle.zk_listing.proofs.LineLaws.{id_exact}
use Rattle.zk_listing.proofs.ReportLineLaws.{is_filled, is_ended}
use Rattle.zk_debug.proofs.Words.{reads_whole, leaves_a_rest, refuses_field}
use Rattle.zk_debug.proofs.fields.id.Goals as goal

pub returns-in_err-id : goal.returns-in_err-id
returns-in_err-id c =
    let p = err_from_is_err_and c.from_residual.result c.from_residual.ensures.1 in
    rw (p.1, p.2) (refuses_field id_digits (FitsSigned w64) id_at id_exact c.in_err-id.field-0.0 c.args.field.now c.read_id.new.input.now c.in_err-id.ensures.only)

pub returns-then-not-is_empty : goal.returns-then-not-is_empty
returns-then-not-is_empty c =
    let more : c.read_id.new.input.now ≢ [] = is_filled c.read_id.new.input.now (sym c.is_empty.ensures ∙ c.if-not-is_empty.true) in
    leaves_a_rest id_digits (FitsSigned w64) id_at id_exact c.in_ok-id.id c.args.field.now c.read_id.new.input.now c.in_ok-id.ensures.only more

pub returns : goal.returns
returns c =
    let end : c.read_id.new.input.now ≡ [] = is_ended c.read_id.new.input.now (sym c.is_empty.ensures ∙ c.if-not-is_empty.false) in
    rw (to_z-of_z w64 c.in_ok-id.id c.in_ok-id.ensures.found.0) (reads_whole id_digits (FitsSigned w64) id_at id_exact c.in_ok-id.id c.args.field.now c.read_id.new.input.now c.in_ok-id.ensures.found end)
