-- The lines so far.
use Rattle.std.specs.String.{string_bytes}
use Rattle.zk_comparison.specs.Objects.{IsFindingLine}
use Rattle.zk_comparison.proofs.Written.{AreAppended}
use Rattle.zk_comparison.proofs.objects.push_findings.Given as goal

abbrev pub invariant-loop-finding : goal.invariant-loop-finding
invariant-loop-finding l = AreAppended IsFindingLine l.fn.findings l.finding-index (string_bytes l.fn.text) (string_bytes l.text)
