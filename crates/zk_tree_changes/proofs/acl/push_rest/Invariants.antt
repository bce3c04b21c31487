-- The entries so far, and the remaining ones.
use Rattle.std.proofs.Common.{◌≡◌, ◌++◌, drop}
use Rattle.std.specs.List.{flat_map}
use Rattle.std.specs.String.{string_bytes}
use Rattle.zk_tree_changes.specs.Words.{next_text}
use Rattle.zk_tree_changes.proofs.acl.push_rest.Given as goal

abbrev pub invariant-loop-entry : goal.invariant-loop-entry
invariant-loop-entry l = string_bytes l.text ++ flat_map next_text (drop l.entry-index l.fn.entries) ≡ string_bytes l.fn.text ++ flat_map next_text l.fn.entries
