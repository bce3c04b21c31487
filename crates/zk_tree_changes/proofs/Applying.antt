-- The difference of two trees, applied to the one, gives the other.
use Rattle.std.proofs.Common.{◌≡◌, ◌⊎◌, ℕ, Bool, true, false, cond, List, [], ◌∷◌, ◌++◌, Option, Some, None, inl, inr, refl, sym, ap, ◌∙◌, subst}
use Rattle.std.proofs.lemmas.Slice.Eq.{bytes_eq-Decides}
use Rattle.std.specs.FinMap.{get}
use Rattle.std.specs.List.{filter, flat_map}
use Rattle.std.specs.Str.{bytes_eq}
use Rattle.zk_tree_changes.proofs.Differing.{Occurs, differences_are, in_new, in_old, lines_are, no_line, occurs_filter}
use Rattle.zk_tree_changes.specs.Differences.{Line, differences, line_at, line_of, lines_at, lines_by, paths_of, texts_of}
use Rattle.zk_tree_changes.specs.Laws.{Nodes, applied, applied_all, node_by}
use Rattle.zk_tree_changes.specs.declared.sign.Sign.{Sign}
use Rattle.zk_tree_changes.specs.declared.sign.Sign.TheVariants.{Removed, Added, Before, After}
use Rattle.zk_incidents.specs.Within.{is_within}
use Rattle.zk_table.specs.States.{NodeMap}
use Rattle.zk_table.specs.declared.node.Node.{Node}

-- ---- lines

applied_more : (nodes : Nodes) (front more : List Line) → applied_all nodes (front ++ more) ≡ applied_all (applied_all nodes front) more
applied_more nodes [] more = refl
applied_more nodes (line ∷ front) more = applied_more (applied nodes line) front more

-- a line at the path
here : (nodes : Nodes) (sign : Sign) (path node : List ℕ) → applied nodes (line_of sign path node) path ≡ node_by sign node
here nodes sign path node = ap (λ t. cond t (node_by sign node) (nodes path)) ((bytes_eq-Decides path path).1 refl)

-- a line elsewhere
elsewhere : (nodes : Nodes) (sign : Sign) (path at node : List ℕ) → bytes_eq path at ≡ false → applied nodes (line_of sign at node) path ≡ nodes path
elsewhere nodes sign path at node is = ap (λ t. cond t (node_by sign node) (nodes path)) is

-- both lines of a node that was changed
changed_here : (t : Bool) (nodes : Nodes) (path a b : List ℕ) → bytes_eq a b ≡ t → (nodes path ≡ Some a) ⊎ (nodes path ≡ Some b)
    → applied_all nodes (cond t [] (line_of Before path a ∷ line_of After path b ∷ [])) path ≡ Some b
changed_here true nodes path a b is (inl e) = e ∙ ap Some ((bytes_eq-Decides a b).0 is)
changed_here true nodes path a b is (inr e) = e
changed_here false nodes path a b is e = here (applied nodes (line_of Before path a)) After path b

-- the lines at a path give the new node, from the old one or the new one
lines_here : (nodes : Nodes) (path : List ℕ) (a b : Option (List ℕ)) → (nodes path ≡ a) ⊎ (nodes path ≡ b) → applied_all nodes (lines_by path a b) path ≡ b
lines_here nodes path None None (inl e) = e
lines_here nodes path None None (inr e) = e
lines_here nodes path (Some a) None e = here nodes Removed path a
lines_here nodes path None (Some b) e = here nodes Added path b
lines_here nodes path (Some a) (Some b) e = changed_here (bytes_eq a b) nodes path a b refl e

changed_elsewhere : (t : Bool) (nodes : Nodes) (path at a b : List ℕ) → bytes_eq path at ≡ false → applied_all nodes (cond t [] (line_of Before at a ∷ line_of After at b ∷ [])) path ≡ nodes path
changed_elsewhere true nodes path at a b is = refl
changed_elsewhere false nodes path at a b is = elsewhere (applied nodes (line_of Before at a)) After path at b is ∙ elsewhere nodes Before path at a is

lines_elsewhere : (nodes : Nodes) (path at : List ℕ) (a b : Option (List ℕ)) → bytes_eq path at ≡ false → applied_all nodes (lines_by at a b) path ≡ nodes path
lines_elsewhere nodes path at None None is = refl
lines_elsewhere nodes path at (Some a) None is = elsewhere nodes Removed path at a is
lines_elsewhere nodes path at None (Some b) is = elsewhere nodes Added path at b is
lines_elsewhere nodes path at (Some a) (Some b) is = changed_elsewhere (bytes_eq a b) nodes path at a b is

-- ---- paths

module _ (old new : NodeMap) (path : List ℕ) where
  at_one : (nodes : Nodes) (at : List ℕ) → applied_all nodes (lines_at old new at) path ≡ applied_all nodes (lines_by at (line_at old at) (line_at new at)) path
  at_one nodes at = ap (λ (l : List Line). applied_all nodes l path) (lines_are old new at)

  other : (nodes : Nodes) (at : List ℕ) → bytes_eq path at ≡ false → applied_all nodes (lines_at old new at) path ≡ nodes path
  other nodes at is = at_one nodes at ∙ lines_elsewhere nodes path at (line_at old at) (line_at new at) is

  same : (nodes : Nodes) (at : List ℕ) → path ≡ at → (nodes path ≡ line_at old path) ⊎ (nodes path ≡ line_at new path) → applied_all nodes (lines_at old new at) path ≡ line_at new path
  same nodes at is e =
      subst (λ (x : List ℕ). applied_all nodes (lines_at old new x) path ≡ line_at new path) is (at_one nodes path ∙ lines_here nodes path (line_at old path) (line_at new path) e)

  -- from the new node on nothing changes
  stays_by : (t : Bool) (nodes : Nodes) (at : List ℕ) → bytes_eq path at ≡ t → nodes path ≡ line_at new path → applied_all nodes (lines_at old new at) path ≡ line_at new path
  stays_by true nodes at is e = same nodes at ((bytes_eq-Decides path at).0 is) (inr e)
  stays_by false nodes at is e = other nodes at is ∙ e

  stays : (nodes : Nodes) (paths : List (List ℕ)) → nodes path ≡ line_at new path → applied_all nodes (flat_map (lines_at old new) paths) path ≡ line_at new path
  stays nodes [] e = e
  stays nodes (at ∷ paths) e =
      ap (λ (n : Nodes). n path) (applied_more nodes (lines_at old new at) (flat_map (lines_at old new) paths))
      ∙ stays (applied_all nodes (lines_at old new at)) paths (stays_by (bytes_eq path at) nodes at refl e)

  -- a path of the list gets its new node
  gets_by : (t : Bool) (nodes : Nodes) (at : List ℕ) (paths : List (List ℕ)) → bytes_eq path at ≡ t → Occurs path (at ∷ paths) → nodes path ≡ line_at old path
      → (Occurs path paths → applied_all nodes (lines_at old new at) path ≡ line_at old path → applied_all (applied_all nodes (lines_at old new at)) (flat_map (lines_at old new) paths) path ≡ line_at new path)
      → applied_all (applied_all nodes (lines_at old new at)) (flat_map (lines_at old new) paths) path ≡ line_at new path
  gets_by true nodes at paths is o e more = stays (applied_all nodes (lines_at old new at)) paths (same nodes at ((bytes_eq-Decides path at).0 is) (inl e))
  gets_by false nodes at paths is (inl found) e more = stays (applied_all nodes (lines_at old new at)) paths (same nodes at (sym found) (inl e))
  gets_by false nodes at paths is (inr o) e more = more o (other nodes at is ∙ e)

  gets : (nodes : Nodes) (paths : List (List ℕ)) → Occurs path paths → nodes path ≡ line_at old path → applied_all nodes (flat_map (lines_at old new) paths) path ≡ line_at new path
  gets nodes [] o e = absurd o
  gets nodes (at ∷ paths) o e =
      ap (λ (n : Nodes). n path) (applied_more nodes (lines_at old new at) (flat_map (lines_at old new) paths))
      ∙ gets_by (bytes_eq path at) nodes at paths refl o e (λ found kept. gets (applied_all nodes (lines_at old new at)) paths found kept)

  -- a path outside of the list keeps its node
  is_other : (t : Bool) (test : List ℕ → Bool) (at : List ℕ) → bytes_eq path at ≡ t → test at ≡ true → test path ≡ false → bytes_eq path at ≡ false
  is_other true test at is covers passes = absurd (both_ways (test path) passes (ap test ((bytes_eq-Decides path at).0 is) ∙ covers))
    where
      both_ways : (b : Bool) → b ≡ false → b ≡ true → ⊥
      both_ways b e f = cc
  is_other false test at is covers passes = is

  keeps_by : (t : Bool) (test : List ℕ → Bool) (nodes : Nodes) (at : List ℕ) (paths : List (List ℕ)) → test at ≡ t → test path ≡ false
      → ((n : Nodes) → applied_all n (flat_map (lines_at old new) (filter test paths)) path ≡ n path)
      → applied_all nodes (flat_map (lines_at old new) (cond t (at ∷ filter test paths) (filter test paths))) path ≡ nodes path
  keeps_by true test nodes at paths covers passes more =
      ap (λ (n : Nodes). n path) (applied_more nodes (lines_at old new at) (flat_map (lines_at old new) (filter test paths)))
      ∙ more (applied_all nodes (lines_at old new at))
      ∙ other nodes at (is_other (bytes_eq path at) test at refl covers passes)
  keeps_by false test nodes at paths covers passes more = more nodes

  keeps : (test : List ℕ → Bool) (nodes : Nodes) (paths : List (List ℕ)) → test path ≡ false → applied_all nodes (flat_map (lines_at old new) (filter test paths)) path ≡ nodes path
  keeps test nodes [] passes = refl
  keeps test nodes (at ∷ paths) passes = keeps_by (test at) test nodes at paths refl passes (λ n. keeps test n paths passes)

  -- ---- both trees

  within : (root : List ℕ) (below : Bool) (a b : Option Node) → get old path ≡ a → get new path ≡ b → is_within root below path ≡ true
      → applied_all (line_at old) (flat_map (lines_at old new) (filter (is_within root below) (texts_of (paths_of old new)))) path ≡ line_at new path
  within root below (Some node) b is also covers = gets (line_at old) (filter (is_within root below) (texts_of (paths_of old new))) (occurs_filter (is_within root below) (texts_of (paths_of old new)) path covers (in_old old new path node is)) refl
  within root below None (Some node) is also covers = gets (line_at old) (filter (is_within root below) (texts_of (paths_of old new))) (occurs_filter (is_within root below) (texts_of (paths_of old new)) path covers (in_new old new path node also)) refl
  within root below None None is also covers = stays (line_at old) (filter (is_within root below) (texts_of (paths_of old new))) (no_line old path is ∙ sym (no_line new path also))

  turned_by : (t : Bool) (root : List ℕ) (below : Bool) → is_within root below path ≡ t
      → applied_all (line_at old) (flat_map (lines_at old new) (filter (is_within root below) (texts_of (paths_of old new)))) path ≡ cond t (line_at new path) (line_at old path)
  turned_by true root below is = within root below (get old path) (get new path) refl refl is
  turned_by false root below is = keeps (is_within root below) (line_at old) (texts_of (paths_of old new)) is

pub turned : (root : List ℕ) (below : Bool) (old new : NodeMap) (path : List ℕ) → applied_all (line_at old) (differences root below old new) path ≡ cond (is_within root below path) (line_at new path) (line_at old path)
turned root below old new path =
    ap (λ (l : List Line). applied_all (line_at old) l path) (differences_are root below old new) ∙ turned_by old new path (is_within root below path) root below refl
