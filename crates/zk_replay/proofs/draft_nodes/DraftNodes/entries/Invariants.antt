use Rattle.std.proofs.Common.{◌≡◌, ◌++◌, map}
use Rattle.zk_tree.proofs.Sorting.{text_entry}
use Rattle.zk_replay.specs.Drafts.{entry_of}
use Rattle.zk_replay.proofs.draft_nodes.DraftNodes.entries.Given as goal

-- the entries so far, and those that are left
abbrev pub invariant-loop-text : goal.invariant-loop-text
invariant-loop-text l = map entry_of l.entries.items ++ map text_entry l.text-iterator ≡ map text_entry l.initial.text-iterator
