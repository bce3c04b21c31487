-- The lines so far, followed by those of the other names, are all.
use Rattle.std.specs.String.{string_bytes}
use Rattle.zk_json_files.proofs.Lines.{UnreadSoFar}
use Rattle.zk_json_files.specs.Unread.{log_instead}
use Rattle.zk_json_files.proofs.unread_files.push_unread_logs.Given as goal

abbrev pub invariant-loop-name : goal.invariant-loop-name
invariant-loop-name l = UnreadSoFar log_instead l.names l.name-index (string_bytes l.fn.text) (string_bytes l.text)
