-- The nodes of a server before any transaction, created one below another.
use Rattle.std.proofs.Common.{◌≡◌, ℕ, pos, true, false, cond, ◌||◌, List, Some, None, is_some, unwrap_or, codes, refl, sym, ap, ◌∙◌}
use Rattle.std.proofs.lemmas.Bool.{false≢true}
use Rattle.std.proofs.lemmas.Cmp.{nat_list_cmp_total}
use Rattle.std.specs.FinMap as finite
use Rattle.std.specs.Option.{option_map}
use Rattle.std.specs.Ordering.{eq_by_cmp}
use Rattle.std.specs.Prelude.{option_and_then}
use Rattle.zk_path.specs.Paths.{parent_of}
use Rattle.zk_table.specs.Codes.{node_exists}
use Rattle.zk_table.specs.declared.node.Node.{Node}
use Rattle.zk_table.specs.Nodes.{first_node, with_child}
use Rattle.zk_table.specs.Operations.{create_fault, parent_fault}
use Rattle.zk_table.specs.States.{NodeMap, path_cmp, start_state, changed_above, changed_found}
use Rattle.zk_requests.specs.Overlays.{count_of}
use Rattle.zk_machine.proofs.Families.{childless}
use Rattle.zk_tree.proofs.Kept.{path_cmp-IsAntisymmetric, contains_key-insert, get-insert_itself, insert_same}
use Rattle.zk_tree.proofs.Lists.{same_is}
use Rattle.zk_tree.proofs.Start.{first_nodes, second_nodes, zookeeper_free, quota_free}
use Rattle.zk_fold.specs.declared.node_table.Slot.{Slot}
use Rattle.zk_fold.specs.NodeIndexes.{put_below, put_unless}
use Rattle.zk_fold.specs.Slots.{nodes_at, new_place, SlotMap, IsCounted}
use Rattle.zk_fold.proofs.Counting.{nodes-insert, get-nodes_at}

-- ---- a node that its parent counts as one that always existed

module _ (n : NodeMap) (path above : List ℕ) (below : parent_of path ≡ Some above) (free : finite.contains_key n path ≡ false) (there : finite.get n above ≡ Some first_node) where
  fits : create_fault n path ≡ None
  fits =
      ap (λ b. cond b (Some node_exists) (parent_fault (option_and_then (finite.get n) (parent_of path)))) free
      ∙ ap (λ p. parent_fault (option_and_then (finite.get n) p)) below
      ∙ ap parent_fault there

  still : finite.get (finite.insert n path first_node) above ≡ Some first_node
  still = finite.get-insert nat_list_cmp_total n path first_node above ∙ elim (eq_by_cmp path_cmp above path) as (λ b. cond b (Some first_node) (finite.get n above) ≡ Some first_node) [ true ↦ refl | false ↦ there ]

  pub planted : put_below n path first_node (pos 0) (pos 0) ≡ finite.insert n path first_node
  planted =
      ap (λ f. put_unless f n path first_node (pos 0) (pos 0)) fits
      ∙ ap (λ p. changed_above (finite.insert n path first_node) p (with_child (pos 0) (pos 0))) below
      ∙ ap (changed_found (finite.insert n path first_node) above (with_child (pos 0) (pos 0))) still
      ∙ insert_same nat_list_cmp_total path_cmp-IsAntisymmetric (finite.insert n path first_node) above first_node still

planted_into : (old before new : NodeMap) (path text : List ℕ) (node : Node) → new ≡ put_below old path node (pos 0) (pos 0) → old ≡ before → path ≡ text → node ≡ first_node → new ≡ put_below before text first_node (pos 0) (pos 0)
planted_into old before new path text node is same path_is node_is =
    is ∙ ap (λ m. put_below m path node (pos 0) (pos 0)) same ∙ ap (λ k. put_below before k node (pos 0) (pos 0)) path_is ∙ ap (λ x. put_below before text x (pos 0) (pos 0)) node_is

-- the three nodes
pub all_planted : (one two three : NodeMap) (root zookeeper quota : List ℕ) (a b c : Node)
    → one ≡ finite.insert finite.empty root a → root ≡ codes "/" → a ≡ first_node
    → two ≡ put_below one zookeeper b (pos 0) (pos 0) → zookeeper ≡ codes "/zookeeper" → b ≡ first_node
    → three ≡ put_below two quota c (pos 0) (pos 0) → quota ≡ codes "/zookeeper/quota" → c ≡ first_node
    → three ≡ start_state.nodes
all_planted one two three root zookeeper quota a b c is_one is_root is_a is_two is_zookeeper is_b is_three is_quota is_c =
    let first : one ≡ first_nodes = is_one ∙ ap (λ k. finite.insert finite.empty k a) is_root ∙ ap (finite.insert finite.empty (codes "/")) is_a in
    let second : two ≡ second_nodes =
    planted_into one first_nodes two zookeeper (codes "/zookeeper") b is_two first is_zookeeper is_b
    ∙ planted first_nodes (codes "/zookeeper") (codes "/") refl zookeeper_free (get-insert_itself nat_list_cmp_total finite.empty (codes "/") first_node) in
    planted_into two second_nodes three quota (codes "/zookeeper/quota") c is_three second is_quota is_c
    ∙ planted second_nodes (codes "/zookeeper/quota") (codes "/zookeeper") refl quota_free (get-insert_itself nat_list_cmp_total first_nodes (codes "/zookeeper") first_node)

-- ---- the root alone

module _ (root : List ℕ) (node : Node) (highest : parent_of root ≡ None) where
  abbrev alone : SlotMap
  alone = finite.insert finite.empty root (new_place root node)

  pub nodes-alone : nodes_at alone ≡ finite.insert (nodes_at finite.empty) root node
  nodes-alone = nodes-insert finite.empty root (new_place root node)

  alone_at : (q : List ℕ) (r : Slot) → finite.get alone q ≡ Some r → (q ≡ root) × (new_place root node ≡ r)
  alone_at q r is = by_test (sym (finite.get-insert nat_list_cmp_total finite.empty root (new_place root node) q) ∙ is)
    where
      by_test : cond (eq_by_cmp path_cmp q root) (Some (new_place root node)) (finite.get (finite.empty {X = Slot} {R = path_cmp}) q) ≡ Some r → (q ≡ root) × (new_place root node ≡ r)
      by_test = elim (eq_by_cmp path_cmp q root) as (λ b. eq_by_cmp path_cmp q root ≡ b → cond b (Some (new_place root node)) (finite.get (finite.empty {X = Slot} {R = path_cmp}) q) ≡ Some r → (q ≡ root) × (new_place root node ≡ r)) [
        | true ↦ λ s e. (same_is q root s, ap (λ o. unwrap_or o r) e)
        | false ↦ λ s e. absurd (false≢true (ap is_some (sym (finite.get-empty path_cmp q) ∙ e)))
      ] refl

  abbrev one : NodeMap
  one = finite.insert finite.empty root node

  only : (child : List ℕ) → finite.contains_key one child ≡ true → child ≡ root
  only child k = by_test (sym (contains_key-insert nat_list_cmp_total finite.empty root node child) ∙ k)
    where
      by_test : (eq_by_cmp path_cmp child root || finite.contains_key (finite.empty {X = Node} {R = path_cmp}) child) ≡ true → child ≡ root
      by_test = elim (eq_by_cmp path_cmp child root) as (λ b. eq_by_cmp path_cmp child root ≡ b → (b || finite.contains_key (finite.empty {X = Node} {R = path_cmp}) child) ≡ true → child ≡ root) [
        | true ↦ λ s _. same_is child root s
        | false ↦ λ s e. absurd (false≢true (sym (ap is_some (finite.get-empty path_cmp child)) ∙ e))
      ] refl

  none_below : (q : List ℕ) → count_of one q ≡ 0
  none_below q = childless one q (λ child k e. false≢true (ap is_some (sym highest ∙ sym (ap parent_of (only child k)) ∙ e)))

  pub no_nodes : nodes_at finite.empty ≡ finite.empty
  no_nodes = finite.same_map nat_list_cmp_total path_cmp-IsAntisymmetric _ _ (λ q. get-nodes_at finite.empty q ∙ ap (option_map (λ p. p.node)) (finite.get-empty path_cmp q) ∙ sym (finite.get-empty path_cmp q))

  pub nodes_one : nodes_at alone ≡ one
  nodes_one = nodes-alone ∙ ap (λ n. finite.insert n root node) no_nodes

  pub counted_alone : IsCounted alone
  counted_alone = record {
    keyed = λ q r is. let at = alone_at q r is in sym (ap (λ p. p.path) at.1) ∙ sym at.0;
    counts = λ q r is. let at = alone_at q r is in sym (ap (λ p. p.children) at.1) ∙ sym (ap (λ n. count_of n q) nodes_one ∙ none_below q);
  }
