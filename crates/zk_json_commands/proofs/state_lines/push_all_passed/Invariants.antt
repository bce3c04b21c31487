-- The lines so far.
use Rattle.std.specs.String.{string_bytes}
use Rattle.zk_json_commands.proofs.StateLines.{ArePassed}
use Rattle.zk_json_commands.proofs.state_lines.push_all_passed.Given as goal

abbrev pub invariant-loop-broken : goal.invariant-loop-broken
invariant-loop-broken l = ArePassed l.fn.passed l.broken-index (string_bytes l.fn.text) (string_bytes l.text)
