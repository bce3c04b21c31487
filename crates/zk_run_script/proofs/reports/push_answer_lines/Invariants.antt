-- The lines so far were appended.
use Rattle.std.proofs.Common.{◌≡◌, ◌++◌, take}
use Rattle.std.specs.List.{flat_map}
use Rattle.std.specs.String.{string_bytes}
use Rattle.zk_run_script.specs.Answers.{answer_line, event_line}
use Rattle.zk_format.specs.Listings.{line_of}
use Rattle.zk_run_script.proofs.reports.push_answer_lines.Given as goal

abbrev pub invariant-loop-answered : goal.invariant-loop-answered
invariant-loop-answered l =
    string_bytes l.page ≡ string_bytes l.fn.page ++ flat_map answer_line (take l.answered-index l.answers)
