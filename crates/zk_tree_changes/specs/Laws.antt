-- What the differences of two trees mean.
use Rattle.std.specs.Prelude.{◌≡◌, ◌≢◌, ℕ, Bool, true, List, [], ◌∷◌, Option, Some, None, if◌then◌else◌}
use Rattle.std.specs.List.{flat_map}
use Rattle.std.specs.Str.{bytes_eq}
use Rattle.zk_tree_changes.specs.Differences.{Line, differ_at, differences, differing, line_at, lines_at}
use Rattle.zk_tree_changes.specs.declared.sign.Sign.{Sign}
use Rattle.zk_tree_changes.specs.declared.sign.Sign.TheVariants.{Removed, Added, Before, After}
use Rattle.zk_incidents.specs.Within.{is_within}
use Rattle.zk_table.specs.States.{NodeMap}

-- at and below a root, both trees have the same nodes, by their lines
abbrev pub AreSame : List ℕ → Bool → NodeMap → NodeMap → Type 0
AreSame root below old new = (path : List ℕ) → is_within root below path ≡ true → line_at old path ≡ line_at new path

-- there is no difference exactly where both are the same
abbrev pub EmptyWhereSame : Type 0
EmptyWhereSame = (root : List ℕ) (below : Bool) (old new : NodeMap) → (differences root below old new ≡ [] → AreSame root below old new) × (AreSame root below old new → differences root below old new ≡ [])

-- there are lines exactly at the paths of what differs
abbrev pub LinesWhereDiffering : Type 0
LinesWhereDiffering = (root : List ℕ) (below : Bool) (old new : NodeMap) → differences root below old new ≡ flat_map (lines_at old new) (differing root below old new)

abbrev pub LineWhereDiffer : Type 0
LineWhereDiffer = (old new : NodeMap) (path : List ℕ) → differ_at old new path ≡ true → lines_at old new path ≢ []

-- ---- applying lines

-- a tree, by the lines of its nodes
abbrev pub Nodes : Type 0
Nodes = List ℕ → Option (List ℕ)

-- the node after a line: none after - and <, and the line's own after + and >
abbrev pub node_by : Sign → List ℕ → Option (List ℕ)
node_by Removed node = None
node_by Before node = None
node_by Added node = Some node
node_by After node = Some node

abbrev pub applied : Nodes → Line → Nodes
applied nodes line path = if bytes_eq path line.path then node_by line.sign line.node else nodes path

abbrev pub applied_all : Nodes → List Line → Nodes
applied_all nodes [] = nodes
applied_all nodes (line ∷ lines) = applied_all (applied nodes line) lines

-- the difference, applied to the old tree, gives the new tree at and below the root, and leaves all
-- other nodes
abbrev pub TurnsOneIntoOther : Type 0
TurnsOneIntoOther = (root : List ℕ) (below : Bool) (old new : NodeMap) (path : List ℕ) → applied_all (line_at old) (differences root below old new) path ≡ (if is_within root below path then line_at new path else line_at old path)
