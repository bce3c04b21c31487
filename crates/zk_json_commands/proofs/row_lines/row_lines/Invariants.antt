-- The lines of the rows so far were appended.
use Rattle.std.specs.String.{string_bytes}
use Rattle.zk_json_commands.proofs.Rows.{AreRowsWritten}
use Rattle.zk_json_commands.proofs.row_lines.row_lines.Given as goal

abbrev pub invariant-loop-counted : goal.invariant-loop-counted
invariant-loop-counted l = AreRowsWritten l.fn.key l.fn.rows l.counted-index (string_bytes l.initial.text) (string_bytes l.text)
