-- Preimages: the nodes before a change, recorded in order.
use Rattle.std.specs.Prelude.{ℕ, List, [], ◌∷◌, Option, if◌then◌else◌}
use Rattle.std.specs.FinMap.{insert, contains_key}
use Rattle.zk_table.specs.declared.node.Node.{Node}
use Rattle.zk_machine.specs.Undoing.{PreimageMap}

abbrev pub Preimage : Type 0
Preimage = List ℕ × Option Node

-- the first preimage of a path is kept
abbrev pub noted : PreimageMap → List ℕ → Option Node → PreimageMap
noted touched path before = if contains_key touched path then touched else insert touched path before

abbrev pub all_noted : PreimageMap → List Preimage → PreimageMap
all_noted touched [] = touched
all_noted touched (note ∷ notes) = all_noted (noted touched note.0 note.1) notes
