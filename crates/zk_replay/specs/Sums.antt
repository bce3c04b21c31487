-- The digest of some nodes of a tree.
use Rattle.std.specs.Prelude.{ℕ, ◌+◌, ◌%◌, ◌^◌, List, [], ◌∷◌, Some}
use Rattle.std.specs.FinMap.{get}
use Rattle.zk_table.specs.States.{NodeMap}
use Rattle.zk_tree.specs.declared.entry.Entry.{Entry}
use Rattle.zk_mend.specs.Digests.{Owners}
use Rattle.zk_mend.specs.Stepping.{counted}

-- the sum over the nodes at these paths; 0 for a path without node
abbrev pub sum_over : Owners → NodeMap → List (List ℕ) → ℕ
sum_over owners nodes [] = 0
sum_over owners nodes (path ∷ paths) = counted path (get nodes path) (owners path) + sum_over owners nodes paths

abbrev pub digest_over : Owners → NodeMap → List (List ℕ) → ℕ
digest_over owners nodes paths = sum_over owners nodes paths % 2 ^ 64

-- the sum over borrowed nodes
abbrev pub sum_of_entries : Owners → List Entry → ℕ
sum_of_entries owners [] = 0
sum_of_entries owners (e ∷ es) = counted e.path.now (Some e.node.now) (owners e.path.now) + sum_of_entries owners es

abbrev pub entries_digest : Owners → List Entry → ℕ
entries_digest owners es = sum_of_entries owners es % 2 ^ 64
