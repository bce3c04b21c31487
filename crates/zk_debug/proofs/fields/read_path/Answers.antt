use Rattle.std.proofs.Common.{◌≡◌, ◌≢◌, List, ℕ, [], sym, ◌∙◌}
use Rattle.std.proofs.lemmas.Result.{err_from_is_err_and}
use Rattle.zk_format.specs.Listings.{IsListedPath}
use Rattle.zk_listing.specs.Reading.{path_at}
use Rattle.zk_format.specs.Spelling.{quoted}
use Rattle.zk_listing.proofs.QuotedLaws.{path_exact}
use Rattle.zk_listing.proofs.ReportLineLaws.{is_filled, is_ended}
use Rattle.zk_debug.proofs.Words.{reads_whole, leaves_a_rest, refuses_field}
use Rattle.zk_debug.proofs.fields.read_path.Goals as goal

pub returns-in_err-path : goal.returns-in_err-path
returns-in_err-path c =
    let p = err_from_is_err_and c.from_residual.result c.from_residual.ensures.1 in
    rw (p.1, p.2) (refuses_field quoted IsListedPath path_at path_exact c.in_err-path.field-0.0 c.args.field.now c.read_path.new.input.now c.in_err-path.ensures.only)

pub returns-then-not-is_empty : goal.returns-then-not-is_empty
returns-then-not-is_empty c =
    let more : c.read_path.new.input.now ≢ [] = is_filled c.read_path.new.input.now (sym c.is_empty.ensures ∙ c.if-not-is_empty.true) in
    leaves_a_rest quoted IsListedPath path_at path_exact c.in_ok-path.path c.args.field.now c.read_path.new.input.now c.in_ok-path.ensures.only more

pub returns : goal.returns
returns c =
    let end : c.read_path.new.input.now ≡ [] = is_ended c.read_path.new.input.now (sym c.is_empty.ensures ∙ c.if-not-is_empty.false) in
    reads_whole quoted IsListedPath path_at path_exact c.in_ok-path.path c.args.field.now c.read_path.new.input.now c.in_ok-path.ensures.found end
