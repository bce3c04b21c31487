-- Nodes with changes on top.
use Rattle.std.proofs.Common.{◌≡◌, ℕ, pos, ◌+◌, Bool, true, false, cond, not, ◌&&◌, ◌||◌, List, [], ◌∷◌, length, Option, Some, None, is_some, refl, sym, ap, ◌∙◌}
use Rattle.std.proofs.lemmas.Bool.{false≢true}
use Rattle.std.proofs.lemmas.Cmp.{nat_list_cmp_total}
use Rattle.std.specs.FinMap as finite
use Rattle.std.specs.FinMap.{find}
use Rattle.std.specs.List.{list_any}
use Rattle.std.specs.Option.{option_map}
use Rattle.std.specs.Ordering.{eq_by_cmp}
use Rattle.zk_table.specs.declared.node.Node.{Node}
use Rattle.zk_table.specs.States.{NodeMap, path_cmp, is_child_of, children_of, changed, changed_found}
use Rattle.zk_tree.specs.Trees.{IsTree, owner_at}
use Rattle.zk_tree.proofs.Kept.{path_cmp-IsAntisymmetric}
use Rattle.zk_tree.proofs.Lists.{same_is, same_itself, any-children_of}
use Rattle.zk_tree.proofs.Branching.{child_parent}
use Rattle.zk_requests.specs.declared.deltas.Delta.{Delta}
use Rattle.zk_requests.specs.Overlays.{DeltaMap, placed, all_placed, nodes_over, count_of, counted, IsCounted, IsRecount}
use Rattle.zk_requests.proofs.Counts.{count-insert}

-- ---- the node at a path

-- the changed node, or else that of the nodes below
abbrev pub shown : Option Delta → Option Node → Option Node
shown None below = below
shown (Some shade) below = shade.node

pub get-placed : (path : List ℕ) (x : Option Node) (m : NodeMap) (q : List ℕ) → finite.get (placed path x m) q ≡ cond (eq_by_cmp path_cmp q path) x (finite.get m q)
get-placed path None m q = finite.get-remove nat_list_cmp_total m path q
get-placed path (Some node) m q = finite.get-insert nat_list_cmp_total m path node q

get-all_placed : (es : List (List ℕ × Delta)) (m : NodeMap) (q : List ℕ) → finite.get (all_placed es m) q ≡ shown (find path_cmp q es) (finite.get m q)
get-all_placed [] m q = refl
get-all_placed (e ∷ es) m q =
    get-placed e.0 e.1.node (all_placed es m) q
    ∙ ap (cond (eq_by_cmp path_cmp q e.0) e.1.node) (get-all_placed es m q)
    ∙ elim (eq_by_cmp path_cmp q e.0) as (λ b. cond b e.1.node (shown (find path_cmp q es) (finite.get m q)) ≡ shown (cond b (Some e.1) (find path_cmp q es)) (finite.get m q)) [ true ↦ refl | false ↦ refl ]

pub get-nodes_over : (s : DeltaMap) (m : NodeMap) (q : List ℕ) → finite.get (nodes_over s m) q ≡ shown (finite.get s q) (finite.get m q)
get-nodes_over s m q = get-all_placed (finite.entries s) m q ∙ ap (λ x. shown x (finite.get m q)) (sym (finite.get-entries s q))

pub over-empty : (m : NodeMap) → nodes_over finite.empty m ≡ m
over-empty m = finite.same_map nat_list_cmp_total path_cmp-IsAntisymmetric _ _ (λ q. get-nodes_over finite.empty m q ∙ ap (λ x. shown x (finite.get m q)) (finite.get-empty path_cmp q))

pub over-insert : (s : DeltaMap) (m : NodeMap) (path : List ℕ) (shade : Delta) → nodes_over (finite.insert s path shade) m ≡ placed path shade.node (nodes_over s m)
over-insert s m path shade =
    finite.same_map nat_list_cmp_total path_cmp-IsAntisymmetric _ _ (λ q. get-nodes_over (finite.insert s path shade) m q
    ∙ ap (λ x. shown x (finite.get m q)) (finite.get-insert nat_list_cmp_total s path shade q)
    ∙ here (eq_by_cmp path_cmp q path) (finite.get s q) (finite.get m q)
    ∙ ap (cond (eq_by_cmp path_cmp q path) shade.node) (sym (get-nodes_over s m q))
    ∙ sym (get-placed path shade.node (nodes_over s m) q))
  where
    here : (b : Bool) (x : Option Delta) (below : Option Node) → shown (cond b (Some shade) x) below ≡ cond b shade.node (shown x below)
    here true x below = refl
    here false x below = refl

-- a change of a node, if there is one
pub placed_change : (m : NodeMap) (path : List ℕ) (change : Node → Node) → placed path (option_map change (finite.get m path)) m ≡ changed m path change
placed_change m path change = by_node (finite.get m path) refl
  where
    absent : finite.get m path ≡ None → finite.remove m path ≡ m
    absent none = finite.same_map nat_list_cmp_total path_cmp-IsAntisymmetric _ _ (λ q. finite.get-remove nat_list_cmp_total m path q ∙ elim (eq_by_cmp path_cmp q path) as (λ b. eq_by_cmp path_cmp q path ≡ b → cond b None (finite.get m q) ≡ finite.get m q) [
      | true ↦ λ s. sym (ap (finite.get m) (same_is q path s) ∙ none)
      | false ↦ λ s. refl
    ] refl)

    by_node : (x : Option Node) → finite.get m path ≡ x → placed path (option_map change x) m ≡ changed_found m path change x
    by_node None e = absent e
    by_node (Some node) e = refl

-- ---- the number of a path's children

pub counted-empty : (m : NodeMap) → IsCounted finite.empty m
counted-empty m = record { counts = λ q. ap (λ x. counted x (count_of m q)) (finite.get-empty path_cmp q) ∙ ap (λ n. count_of n q) (sym (over-empty m)) }

no_members : (xs : List (List ℕ)) → ((q : List ℕ) → list_any (eq_by_cmp path_cmp q) xs ≡ false) → 0 ≡ length xs
no_members [] none = refl
no_members (x ∷ xs) none = absurd (false≢true (sym (none x) ∙ ap (λ b. b || list_any (eq_by_cmp path_cmp x) xs) (same_itself x)))

-- a path without node has no children
pub none_below : (m : NodeMap) (path : List ℕ) → IsTree m → finite.get m path ≡ None → 0 ≡ count_of m path
none_below m path tree none = no_members (children_of m path) (λ q. sym (any-children_of m path q) ∙ no_child q)
  where
    absent : owner_at m path ≡ Some (pos 0) → ⊥
    absent e = false≢true (sym (ap (λ x. is_some (option_map (λ (n : Node). n.owner) x)) none) ∙ ap is_some e)

    no_child : (q : List ℕ) → (is_child_of path q && finite.contains_key m q) ≡ false
    no_child q = elim (is_child_of path q) as (λ b. is_child_of path q ≡ b → (b && finite.contains_key m q) ≡ false) [
      | true ↦ λ c. elim (finite.contains_key m q) as (λ b. finite.contains_key m q ≡ b → b ≡ false) [
        | true ↦ λ there. absurd (absent (tree.parents q path there (child_parent path q c)))
        | false ↦ λ _. refl
      ] refl
      | false ↦ λ _. refl
    ] refl

module _ (s : DeltaMap) (m : NodeMap) (is : IsCounted s m) (path above : List ℕ) (own upper : Delta) (recount : IsRecount (nodes_over s m) (placed above upper.node (placed path own.node (nodes_over s m))) path above own.children upper.children) where
  abbrev both : DeltaMap
  both = finite.insert (finite.insert s path own) above upper

  pub over_both : nodes_over both m ≡ placed above upper.node (placed path own.node (nodes_over s m))
  over_both = over-insert (finite.insert s path own) m above upper ∙ ap (placed above upper.node) (over-insert s m path own)

  abbrev after : NodeMap
  after = placed above upper.node (placed path own.node (nodes_over s m))

  get-both : (q : List ℕ) → finite.get both q ≡ cond (eq_by_cmp path_cmp q above) (Some upper) (cond (eq_by_cmp path_cmp q path) (Some own) (finite.get s q))
  get-both q = finite.get-insert nat_list_cmp_total (finite.insert s path own) above upper q ∙ ap (cond (eq_by_cmp path_cmp q above) (Some upper)) (finite.get-insert nat_list_cmp_total s path own q)

  count_at : (q : List ℕ) (a p : Bool) → eq_by_cmp path_cmp q above ≡ a → eq_by_cmp path_cmp q path ≡ p → counted (cond a (Some upper) (cond p (Some own) (finite.get s q))) (count_of m q) ≡ count_of after q
  count_at q true p e f = sym (ap (count_of after) (same_is q above e) ∙ recount.above_count)
  count_at q false true e f = sym (ap (count_of after) (same_is q path f) ∙ recount.path_count)
  count_at q false false e f = is.counts q ∙ sym (recount.rest q f e)

  pub both_counted : IsCounted both m
  both_counted = record { counts = λ q. ap (λ x. counted x (count_of m q)) (get-both q) ∙ count_at q _ _ refl refl ∙ ap (λ n. count_of n q) (sym over_both) }

-- ---- replacing a node

pub some_there : (m : NodeMap) (path : List ℕ) (node : Node) (q : List ℕ) → finite.contains_key m path ≡ true → count_of (finite.insert m path node) q ≡ count_of m q
some_there m path node q there = count-insert m path node q ∙ ap (λ b. cond (is_child_of q path && not b) (count_of m q + 1) (count_of m q)) there ∙ never (is_child_of q path) _ _
  where
    never : (b : Bool) (x y : ℕ) → cond (b && false) x y ≡ y
    never true x y = refl
    never false x y = refl

module _ (s : DeltaMap) (m : NodeMap) (is : IsCounted s m) (path : List ℕ) (shade : Delta) (node : Node) (other : shade.node ≡ Some node) (there : finite.contains_key (nodes_over s m) path ≡ true) (own : shade.children ≡ count_of (nodes_over s m) path) where
  pub over_other : nodes_over (finite.insert s path shade) m ≡ finite.insert (nodes_over s m) path node
  over_other = over-insert s m path shade ∙ ap (λ x. placed path x (nodes_over s m)) other

  count_of_other : (q : List ℕ) (b : Bool) → eq_by_cmp path_cmp q path ≡ b → counted (cond b (Some shade) (finite.get s q)) (count_of m q) ≡ count_of (nodes_over s m) q
  count_of_other q true e = own ∙ ap (count_of (nodes_over s m)) (sym (same_is q path e))
  count_of_other q false e = is.counts q

  pub other_counted : IsCounted (finite.insert s path shade) m
  other_counted = record { counts = λ q. ap (λ x. counted x (count_of m q)) (finite.get-insert nat_list_cmp_total s path shade q) ∙ count_of_other q _ refl ∙ sym (ap (λ n. count_of n q) over_other ∙ some_there (nodes_over s m) path node q there) }
