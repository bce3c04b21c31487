-- The lines of the entries so far were appended.
use Rattle.std.proofs.Common.{◌≡◌, ◌++◌, take}
use Rattle.std.specs.List.{flat_map}
use Rattle.std.specs.String.{string_bytes}
use Rattle.zk_commands.specs.Diffs.{came_entry}
use Rattle.zk_commands.proofs.diff.spell_came_entries.Given as goal

abbrev pub invariant-loop-entry : goal.invariant-loop-entry
invariant-loop-entry l =
    string_bytes l.page ≡ string_bytes l.fn.page ++ flat_map (came_entry l.old) (take l.entry-index l.entries)
