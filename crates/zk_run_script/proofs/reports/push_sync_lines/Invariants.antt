-- The lines so far were appended.
use Rattle.std.proofs.Common.{◌≡◌, ◌++◌, take}
use Rattle.std.specs.List.{flat_map}
use Rattle.std.specs.String.{string_bytes}
use Rattle.zk_run_script.specs.Answers.{sync_line}
use Rattle.zk_run_script.proofs.reports.push_sync_lines.Given as goal

abbrev pub invariant-loop-caught : goal.invariant-loop-caught
invariant-loop-caught l =
    string_bytes l.page ≡ string_bytes l.fn.page ++ flat_map sync_line (take l.caught-index l.syncs)
