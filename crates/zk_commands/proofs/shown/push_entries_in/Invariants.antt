-- The lines of the entries so far were appended.
use Rattle.std.proofs.Common.{◌≡◌, ◌++◌, take}
use Rattle.std.specs.List.{flat_map}
use Rattle.std.specs.String.{string_bytes}
use Rattle.zk_commands.specs.Shown.{entry_in}
use Rattle.zk_commands.proofs.shown.push_entries_in.Given as goal

abbrev pub invariant-loop-entry : goal.invariant-loop-entry
invariant-loop-entry l =
    string_bytes l.page ≡ string_bytes l.fn.page ++ flat_map (entry_in l.path) (take l.entry-index l.entries)
