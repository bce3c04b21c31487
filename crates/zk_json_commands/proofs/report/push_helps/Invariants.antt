-- The lines so far.
use Rattle.std.specs.String.{string_bytes}
use Rattle.zk_json_commands.proofs.WrittenReports.{AreHelped}
use Rattle.zk_json_commands.proofs.report.push_helps.Given as goal

abbrev pub invariant-loop-kind : goal.invariant-loop-kind
invariant-loop-kind l = AreHelped l.fn.marks l.fn.kinds l.kind-index (string_bytes l.fn.text) (string_bytes l.text)
