-- The lines so far were appended.
use Rattle.std.proofs.Common.{◌≡◌, ◌++◌, take}
use Rattle.std.specs.List.{flat_map}
use Rattle.std.specs.String.{string_bytes}
use Rattle.zk_directory_state.specs.Reports.{passed_line}
use Rattle.zk_directory_state.proofs.report.push_all_passed.Given as goal

abbrev pub invariant-loop-one : goal.invariant-loop-one
invariant-loop-one l = string_bytes l.text ≡ string_bytes l.fn.text ++ flat_map passed_line (take l.one-index l.broken)
