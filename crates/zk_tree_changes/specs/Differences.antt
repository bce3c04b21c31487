-- What differs between two trees, path by path: the lines of nodes that were created, deleted or
-- changed. A definition of this project; the line of a node is that of a report.
use Rattle.std.specs.Prelude.{ℕ, Bool, true, false, not, ◌&&◌, List, [], ◌∷◌, map, Option, Some, None, option_map, if◌then◌else◌}
use Rattle.std.specs.BTreeMap.{insert_entry}
use Rattle.std.specs.FinMap.{get, keys}
use Rattle.std.specs.List.{filter, flat_map}
use Rattle.std.specs.Str.{bytes_eq}
use Rattle.zk_tree_changes.specs.declared.sign.Sign.{Sign}
use Rattle.zk_tree_changes.specs.declared.sign.Sign.TheVariants.{Removed, Added, Before, After}
use Rattle.zk_incidents.specs.Within.{is_within}
use Rattle.zk_listing.specs.Reports.{line, tree_node_line}
use Rattle.zk_table.specs.States.{NodeMap, path_cmp}

-- ---- at a path

-- the line of the node, if there is one
abbrev pub line_at : NodeMap → List ℕ → Option (List ℕ)
line_at nodes path = option_map (λ node. line (tree_node_line nodes (path, node))) (get nodes path)

-- a line of a difference: the line of the node at a path, in one of the trees
pub record Line : Type 0 where
  pub sign : Sign
  pub path : List ℕ
  pub node : List ℕ

abbrev pub line_of : Sign → List ℕ → List ℕ → Line
line_of sign path node = record { sign = sign; path = path; node = node }

abbrev pub changed_lines : List ℕ → List ℕ → List ℕ → List Line
changed_lines path before after = if bytes_eq before after then [] else line_of Before path before ∷ line_of After path after ∷ []

-- deleted, created or changed
abbrev pub lines_by : List ℕ → Option (List ℕ) → Option (List ℕ) → List Line
lines_by path None None = []
lines_by path (Some before) None = line_of Removed path before ∷ []
lines_by path None (Some after) = line_of Added path after ∷ []
lines_by path (Some before) (Some after) = changed_lines path before after

unfoldable pub lines_at : NodeMap → NodeMap → List ℕ → List Line
lines_at old new path = lines_by path (line_at old path) (line_at new path)

-- ---- all paths

-- paths, each once, in order
abbrev pub Paths : Type 0
Paths = List (List ℕ × Unit {0})

abbrev pub with_path : Paths → List ℕ → Paths
with_path paths path = insert_entry path_cmp paths path tt

abbrev pub with_all : Paths → List (List ℕ) → Paths
with_all paths [] = paths
with_all paths (path ∷ more) = with_all (with_path paths path) more

-- those of a tree
abbrev pub paths_in : NodeMap → List (List ℕ)
paths_in nodes = keys nodes

-- those of two trees
abbrev pub paths_of : NodeMap → NodeMap → Paths
paths_of old new = with_all (with_all [] (paths_in old)) (paths_in new)

abbrev pub texts_of : Paths → List (List ℕ)
texts_of paths = map (λ entry. entry.0) paths

-- ---- two trees

-- at each path at or below a root, in order
unfoldable pub differences : List ℕ → Bool → NodeMap → NodeMap → List Line
differences root below old new = flat_map (lines_at old new) (filter (is_within root below) (texts_of (paths_of old new)))

-- ---- the paths of what differs

abbrev pub differ_by : Option (List ℕ) → Option (List ℕ) → Bool
differ_by None None = false
differ_by (Some before) None = true
differ_by None (Some after) = true
differ_by (Some before) (Some after) = not (bytes_eq before after)

-- one tree alone has a node there, or their nodes have different lines
unfoldable pub differ_at : NodeMap → NodeMap → List ℕ → Bool
differ_at old new path = differ_by (line_at old path) (line_at new path)

abbrev pub differ_within : List ℕ → Bool → NodeMap → NodeMap → List ℕ → Bool
differ_within root below old new path = is_within root below path && differ_at old new path

-- at or below a root, in order
unfoldable pub differing : List ℕ → Bool → NodeMap → NodeMap → List (List ℕ)
differing root below old new = filter (differ_within root below old new) (texts_of (paths_of old new))
