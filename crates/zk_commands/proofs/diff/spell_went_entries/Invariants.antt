-- The lines of the entries so far were appended.
use Rattle.std.proofs.Common.{◌≡◌, ◌++◌, take}
use Rattle.std.specs.List.{flat_map}
use Rattle.std.specs.String.{string_bytes}
use Rattle.zk_commands.specs.Diffs.{went_entry}
use Rattle.zk_commands.proofs.diff.spell_went_entries.Given as goal

abbrev pub invariant-loop-entry : goal.invariant-loop-entry
invariant-loop-entry l =
    string_bytes l.page ≡ string_bytes l.fn.page ++ flat_map (went_entry l.new) (take l.entry-index l.entries)
