-- The entries so far follow their number.
use Rattle.std.proofs.Common.{◌≡◌, ◌++◌, length, take}
use Rattle.std.specs.Fmt.{decimal}
use Rattle.std.specs.List.{flat_map}
use Rattle.std.specs.String.{string_bytes}
use Rattle.zk_format.specs.Spelling.{acl_entry_text}
use Rattle.zk_format.proofs.spelling.spell_acl.Given as goal

abbrev pub invariant-loop-entry : goal.invariant-loop-entry
invariant-loop-entry l =
    string_bytes l.line ≡ string_bytes l.fn.line ++ (decimal (length l.entries) ++ flat_map acl_entry_text (take l.entry-index l.entries))
