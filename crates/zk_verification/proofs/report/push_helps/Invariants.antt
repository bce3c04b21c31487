-- The helps so far were appended.
use Rattle.std.proofs.Common.{◌≡◌, ◌++◌, take}
use Rattle.std.specs.List.{flat_map}
use Rattle.std.specs.String.{string_bytes}
use Rattle.zk_verification.specs.Reports.{help_text}
use Rattle.zk_verification.proofs.report.push_helps.Given as goal

abbrev pub invariant-loop-kind : goal.invariant-loop-kind
invariant-loop-kind l = string_bytes l.text ≡ string_bytes l.fn.text ++ flat_map (help_text l.marks) (take l.kind-index l.kinds)
