use Rattle.std.proofs.Common.{◌≡◌, false, rules, arith}
use Rattle.std.proofs.lemmas.Result.{err_from_is_err_and}
use Rattle.zk_snapshot_command.proofs.Parting.{all_left, less_left, more_written, part_stops}
use Rattle.zk_snapshot_command.proofs.parts.put_parts.Goals as goal

pub loop-writer-init : goal.loop-writer-init
loop-writer-init g c = all_left g.O.Write.contents c.args.output.now c.args.writer

pub loop-writer-preserved : goal.loop-writer-preserved
loop-writer-preserved g c =
    more_written g.O.Write.contents c.args.output.now c.loop-writer.output c.put_part.new.output c.args.writer c.loop-writer.writer c.put_part.new.writer 65536 c.loop-writer.invariant c.in_ok-put_part.ensures.written c.in_ok-put_part.ensures.rest

pub loop-writer-smaller : goal.loop-writer-smaller
loop-writer-smaller g c =
    let goes : c.is_done.result ≡ false = search rules in
    less_left c.loop-writer.writer c.put_part.new.writer 65536 c.is_done.result (omega arith) c.is_done.ensures goes c.in_ok-put_part.ensures.rest

pub returns-in_err-put_part : goal.returns-in_err-put_part
returns-in_err-put_part g c =
    let p = err_from_is_err_and c.from_residual.result c.from_residual.ensures.1 in
    rw (p.1, p.2) (part_stops g.O.Write.contents c.args.output.now c.loop-writer.output c.put_part.new.output c.args.writer c.loop-writer.writer 65536 _ c.loop-writer.invariant c.in_err-put_part.ensures.written)
