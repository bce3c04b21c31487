use Rattle.std.proofs.Common.{◌≡◌, ◌++◌, map}
use Rattle.zk_replay.specs.Drafts.{starting_in}
use Rattle.zk_tree.proofs.Sorting.{text_entry}
use Rattle.zk_replay.proofs.draft_nodes.DraftNodes.paths_starting.Given as goal

-- the paths so far, and those in the entries that are left
abbrev pub invariant-loop-draft : goal.invariant-loop-draft
invariant-loop-draft l = l.paths.items ++ starting_in l.prefix (map text_entry l.draft-iterator) ≡ starting_in l.prefix (map text_entry l.initial.draft-iterator)
