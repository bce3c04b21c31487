-- The lines of the breakpoints so far were appended.
use Rattle.std.proofs.Common.{◌≡◌, ◌++◌, take}
use Rattle.std.specs.List.{flat_map}
use Rattle.std.specs.String.{string_bytes}
use Rattle.zk_commands.specs.Shown.{breakpoint_line}
use Rattle.zk_commands.proofs.shown.push_standing.Given as goal

abbrev pub invariant-loop-at : goal.invariant-loop-at
invariant-loop-at l =
    string_bytes l.page ≡ string_bytes l.fn.page ++ flat_map breakpoint_line (take l.at l.standing.entries)
