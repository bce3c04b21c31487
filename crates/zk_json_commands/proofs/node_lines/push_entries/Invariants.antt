-- The lines of the entries so far were appended.
use Rattle.std.specs.String.{string_bytes}
use Rattle.zk_json_commands.proofs.Written.{AreWritten}
use Rattle.zk_json_commands.proofs.node_lines.push_entries.Given as goal

abbrev pub invariant-loop-entry : goal.invariant-loop-entry
invariant-loop-entry l = AreWritten l.fn.entries l.entry-index (string_bytes l.fn.text) (string_bytes l.text)
