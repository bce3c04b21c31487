-- The lines so far were appended.
use Rattle.std.proofs.Common.{◌≡◌, ◌++◌, take}
use Rattle.std.specs.List.{flat_map}
use Rattle.std.specs.String.{string_bytes}
use Rattle.zk_commands.specs.Lists.{unmarked_line}
use Rattle.zk_commands.proofs.list.spell_unmarked.Given as goal

abbrev pub invariant-loop-txn : goal.invariant-loop-txn
invariant-loop-txn l = string_bytes l.page ≡ string_bytes l.fn.page ++ flat_map unmarked_line (take l.txn-index l.txns)
