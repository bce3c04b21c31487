use Rattle.std.proofs.lemmas.Result.{err_from_is_err_and}
use Rattle.zk_run_script.proofs.FirstLineTexts.{unread, reads}
use Rattle.zk_run_script.proofs.first_line_reading.read_servers.Goals as goal

pub returns-in_err-weights : goal.returns-in_err-weights
returns-in_err-weights c =
    let p = err_from_is_err_and c.from_residual.result c.from_residual.ensures.1 in
    rw (p.1, p.2) (unread c.args.line.now c.in_err-weights.field-0.0 c.in_err-weights.ensures.memory c.in_err-weights.ensures.taken)

pub returns : goal.returns
returns c =
    reads c.args.line.now c.first.new.input.now c.in_ok-weights.weights c.in_ok-weights.ensures.taken c.weighted.result c.weighted.ensures.found c.weighted.ensures.refused c.weighted.ensures.memory
