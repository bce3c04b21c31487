-- The lines of the remaining sessions complete the text.
use Rattle.std.specs.String.{string_bytes}
use Rattle.zk_session_lines.proofs.Appended.{Completes}
use Rattle.zk_session_lines.specs.Rows.{IsFormedRow}
use Rattle.zk_session_lines.proofs.rows.push_entries.Given as goal

abbrev pub invariant-loop-entry : goal.invariant-loop-entry
invariant-loop-entry l = Completes (IsFormedRow l.fn.form) l.fn.entries l.entry-index (string_bytes l.fn.text) (string_bytes l.text)
