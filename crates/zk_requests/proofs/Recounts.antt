-- The numbers of children after a node was created or deleted.
use Rattle.std.proofs.Common.{◌≡◌, ℕ, ◌+◌, ◌-◌, ◌≤◌, Bool, true, false, cond, not, ◌&&◌, nat_lt, List, length, Option, Some, None, is_some, is_none, refl, sym, ap, subst, ◌∙◌, arith}
use Rattle.std.proofs.lemmas.Bool.{false≢true, ltb-false}
use Rattle.std.proofs.lemmas.Cmp.{nat_list_cmp_total}
use Rattle.std.specs.FinMap as finite
use Rattle.std.specs.Option.{option_map}
use Rattle.std.specs.Ordering.{eq_by_cmp, int_eq}
use Rattle.std.specs.Prelude.{option_and_then}
use Rattle.zk_path.specs.Paths.{parent_of}
use Rattle.zk_table.specs.Codes.{no_node, node_exists, not_empty, bad_arguments}
use Rattle.zk_table.specs.declared.node.Node.{Node}
use Rattle.zk_table.specs.Operations.{create_fault, parent_fault, delete_fault}
use Rattle.zk_table.specs.States.{NodeMap, path_cmp, is_child_of, is_parent, children_of, changed, changed_found, changed_above, parent_changed}
use Rattle.zk_tree.proofs.Kept.{tests_alike}
use Rattle.zk_tree.proofs.Lists.{same_is, same_itself, no_children}
use Rattle.zk_requests.specs.Overlays.{placed, count_of, IsRecount}
use Rattle.zk_requests.proofs.Counts.{count-insert, count-remove}
use Rattle.zk_requests.proofs.Laying.{placed_change, some_there}

-- a change of a node leaves all numbers unchanged
count-changed : (m : NodeMap) (path : List ℕ) (change : Node → Node) (q : List ℕ) → count_of (changed m path change) q ≡ count_of m q
count-changed m path change q = by_node (finite.get m path) refl
  where
    by_node : (x : Option Node) → finite.get m path ≡ x → count_of (changed_found m path change x) q ≡ count_of m q
    by_node None e = refl
    by_node (Some node) e = some_there m path (change node) q (ap is_some e)

module _ (m : NodeMap) (path above : List ℕ) (below : Some above ≡ parent_of path) (apart : eq_by_cmp path_cmp above path ≡ false) (change : Node → Node) where
  -- the one child that is added or removed is one of the path above
  child_of_above : (q : List ℕ) → is_child_of q path ≡ eq_by_cmp path_cmp q above
  child_of_above q = ap (λ p. is_parent p q) (sym below) ∙ tests_alike above q

  path_apart : eq_by_cmp path_cmp path above ≡ false
  path_apart = not_swapped _ refl
    where
      not_swapped : (b : Bool) → eq_by_cmp path_cmp path above ≡ b → b ≡ false
      not_swapped false e = refl
      not_swapped true e = absurd (false≢true (sym apart ∙ ap (λ p. eq_by_cmp path_cmp above p) (same_is path above e) ∙ same_itself above))

  module _ (node : Node) where
    abbrev pub with_new : NodeMap
    with_new = placed above (option_map change (finite.get m above)) (placed path (Some node) m)

    is_with_new : with_new ≡ changed (finite.insert m path node) above change
    is_with_new =
        ap (λ x. placed above (option_map change x) (finite.insert m path node)) (sym (finite.get-insert nat_list_cmp_total m path node above ∙ ap (λ b. cond b (Some node) (finite.get m above)) apart))
        ∙ placed_change (finite.insert m path node) above change

    pub with_new_is : with_new ≡ parent_changed (finite.insert m path node) path change
    with_new_is = is_with_new ∙ ap (λ p. changed_above (finite.insert m path node) p change) below

    count-with_new : (q : List ℕ) → finite.get m path ≡ None → count_of with_new q ≡ cond (eq_by_cmp path_cmp q above) (count_of m q + 1) (count_of m q)
    count-with_new q free =
        ap (λ n. count_of n q) is_with_new
        ∙ count-changed (finite.insert m path node) above change q
        ∙ count-insert m path node q
        ∙ (λ i. cond (child_of_above q i && not (is_some (free i))) (count_of m q + 1) (count_of m q))
        ∙ always (eq_by_cmp path_cmp q above) _ _
      where
        always : (b : Bool) (x y : ℕ) → cond (b && true) x y ≡ cond b x y
        always true x y = refl
        always false x y = refl

    pub recount_new : finite.get m path ≡ None → (own others : ℕ) → own ≡ count_of m path → others ≡ count_of m above + 1 → IsRecount m with_new path above own others
    recount_new free own others is upper = record {
      path_count = count-with_new path free ∙ ap (λ b. cond b (count_of m path + 1) (count_of m path)) path_apart ∙ sym is;
      above_count = count-with_new above free ∙ ap (λ b. cond b (count_of m above + 1) (count_of m above)) (same_itself above) ∙ sym upper;
      rest = λ q _ e. count-with_new q free ∙ ap (λ b. cond b (count_of m q + 1) (count_of m q)) e;
    }

  abbrev pub without_it : NodeMap
  without_it = placed above (option_map change (finite.get m above)) (placed path None m)

  is_without : without_it ≡ changed (finite.remove m path) above change
  is_without =
      ap (λ x. placed above (option_map change x) (finite.remove m path)) (sym (finite.get-remove nat_list_cmp_total m path above ∙ ap (λ b. cond b None (finite.get m above)) apart))
      ∙ placed_change (finite.remove m path) above change

  pub without_is : without_it ≡ parent_changed (finite.remove m path) path change
  without_is = is_without ∙ ap (λ p. changed_above (finite.remove m path) p change) below

  count-without : (q : List ℕ) → finite.contains_key m path ≡ true → count_of without_it q ≡ cond (eq_by_cmp path_cmp q above) (count_of m q - 1) (count_of m q)
  count-without q there =
      ap (λ n. count_of n q) is_without
      ∙ count-changed (finite.remove m path) above change q
      ∙ count-remove m path q
      ∙ (λ i. cond (child_of_above q i && there i) (count_of m q - 1) (count_of m q))
      ∙ always (eq_by_cmp path_cmp q above) _ _
    where
      always : (b : Bool) (x y : ℕ) → cond (b && true) x y ≡ cond b x y
      always true x y = refl
      always false x y = refl

  pub recount_without : finite.contains_key m path ≡ true → count_of m path ≡ 0 → (others : ℕ) → others ≡ count_of m above - 1 → IsRecount m without_it path above 0 others
  recount_without there none others upper = record {
    path_count = count-without path there ∙ ap (λ b. cond b (count_of m path - 1) (count_of m path)) path_apart ∙ none;
    above_count = count-without above there ∙ ap (λ b. cond b (count_of m above - 1) (count_of m above)) (same_itself above) ∙ sym upper;
    rest = λ q _ e. count-without q there ∙ ap (λ b. cond b (count_of m q - 1) (count_of m q)) e;
  }

-- ---- if a node can be created

none_not_some : {A : Type 0} {x : A} → Some x ≡ None → ⊥
none_not_some e = false≢true (sym (ap is_some e))

pub create_needs_parent : (m : NodeMap) (path : List ℕ) → create_fault m path ≡ None → None ≡ parent_of path → ⊥
create_needs_parent m path e none = by_there (finite.contains_key m path) (sym (ap (λ p. cond (finite.contains_key m path) (Some node_exists) (parent_fault (option_and_then (finite.get m) p))) (sym none)) ∙ e)
  where
    by_there : (b : Bool) → cond b (Some node_exists) (Some no_node) ≡ None → ⊥
    by_there true e = none_not_some e
    by_there false e = none_not_some e

module _ (m : NodeMap) (path above : List ℕ) (below : Some above ≡ parent_of path) (fits : create_fault m path ≡ None) where
  known_parent : cond (finite.contains_key m path) (Some node_exists) (parent_fault (finite.get m above)) ≡ None
  known_parent = ap (λ p. cond (finite.contains_key m path) (Some node_exists) (parent_fault (option_and_then (finite.get m) p))) below ∙ fits

  pub create_free : finite.get m path ≡ None
  create_free = by_node (finite.get m path) known_parent
    where
      by_node : (x : Option Node) → cond (is_some x) (Some node_exists) (parent_fault (finite.get m above)) ≡ None → x ≡ None
      by_node None e = refl
      by_node (Some node) e = absurd (none_not_some e)

  pub create_above : finite.contains_key m above ≡ true
  create_above = by_node (finite.get m above) (ap (λ x. cond (is_some x) (Some node_exists) (parent_fault (finite.get m above))) (sym create_free) ∙ known_parent)
    where
      by_node : (x : Option Node) → parent_fault x ≡ None → is_some x ≡ true
      by_node None e = absurd (none_not_some e)
      by_node (Some node) e = refl

  pub create_apart : eq_by_cmp path_cmp above path ≡ false
  create_apart = by_test _ refl
    where
      by_test : (b : Bool) → eq_by_cmp path_cmp above path ≡ b → b ≡ false
      by_test false e = refl
      by_test true e = absurd (false≢true (ap is_some (sym create_free) ∙ ap (finite.contains_key m) (sym (same_is above path e)) ∙ create_above))

-- ---- if a node can be deleted

pub delete_needs_parent : (m : NodeMap) (path : List ℕ) → delete_fault m path ≡ None → None ≡ parent_of path → ⊥
delete_needs_parent m path e none = none_not_some (ap (λ p. cond (is_none p) (Some bad_arguments) (cond (finite.contains_key m path) (cond (nat_lt 0 (count_of m path)) (Some not_empty) None) (Some no_node))) none ∙ e)

by_test : (n : ℕ) (b : Bool) → nat_lt 0 n ≡ b → cond b (Some not_empty) None ≡ None → n ≡ 0
by_test n true h e = absurd (none_not_some e)
by_test n false h e = let least : n ≤ 0 = ltb-false 0 n h in omega arith

module _ (m : NodeMap) (path above : List ℕ) (below : Some above ≡ parent_of path) (fits : delete_fault m path ≡ None) where
  known_node : cond (finite.contains_key m path) (cond (nat_lt 0 (count_of m path)) (Some not_empty) None) (Some no_node) ≡ None
  known_node = ap (λ p. cond (is_none p) (Some bad_arguments) (cond (finite.contains_key m path) (cond (nat_lt 0 (count_of m path)) (Some not_empty) None) (Some no_node))) below ∙ fits

  pub delete_there : finite.contains_key m path ≡ true
  delete_there = by_test (finite.contains_key m path) known_node
    where
      by_test : (b : Bool) → cond b (cond (nat_lt 0 (count_of m path)) (Some not_empty) None) (Some no_node) ≡ None → b ≡ true
      by_test true e = refl
      by_test false e = absurd (none_not_some e)

  pub delete_childless : count_of m path ≡ 0
  delete_childless = by_count (count_of m path) (ap (λ b. cond b (cond (nat_lt 0 (count_of m path)) (Some not_empty) None) (Some no_node)) (sym delete_there) ∙ known_node)
    where
      by_count : (n : ℕ) → cond (nat_lt 0 n) (Some not_empty) None ≡ None → n ≡ 0
      by_count n e = by_test n _ refl e

  pub delete_apart : eq_by_cmp path_cmp above path ≡ false
  delete_apart = by_test _ refl
    where
      by_test : (b : Bool) → eq_by_cmp path_cmp above path ≡ b → b ≡ false
      by_test false e = refl
      by_test true e = absurd (false≢true (sym (no_children m path delete_childless path) ∙ own_child (ap Some (sym (same_is above path e)) ∙ below)))
        where
          own_child : Some path ≡ parent_of path → (is_child_of path path && finite.contains_key m path) ≡ true
          own_child own = (λ i. is_parent (sym own i) path && delete_there i) ∙ ap (λ b. b && true) (tests_alike path path ∙ same_itself path)

-- ---- as in the code: by the path's text, and with the node above as it was changed

module _ (m : NodeMap) (path above key : List ℕ) (text : key ≡ path) (below : Some above ≡ parent_of path) (change : Node → Node) (upper : Option Node) (made : upper ≡ option_map change (finite.get m above)) where
  module _ (fits : create_fault m path ≡ None) (node : Node) where
    pub recounted_with : (own others : ℕ) → own ≡ count_of m path → others ≡ count_of m above + 1 → IsRecount m (placed above upper (finite.insert m key node)) key above own others
    recounted_with own others is more =
        subst (λ k. IsRecount m (placed above upper (finite.insert m k node)) k above own others) (sym text)
        (subst (λ u. IsRecount m (placed above u (finite.insert m path node)) path above own others) (sym made) (recount_new m path above below (create_apart m path above below fits) change node (create_free m path above below fits) own others is more))

    pub changed_with : placed above upper (finite.insert m key node) ≡ parent_changed (finite.insert m path node) path change
    changed_with = (λ i. placed above (made i) (finite.insert m (text i) node)) ∙ with_new_is m path above below (create_apart m path above below fits) change node

  module _ (fits : delete_fault m path ≡ None) where
    pub recounted_without : (others : ℕ) → others ≡ count_of m above - 1 → IsRecount m (placed above upper (finite.remove m key)) key above 0 others
    recounted_without others less =
        subst (λ k. IsRecount m (placed above upper (finite.remove m k)) k above 0 others) (sym text)
        (subst (λ u. IsRecount m (placed above u (finite.remove m path)) path above 0 others) (sym made) (recount_without m path above below (delete_apart m path above below fits) change (delete_there m path above below fits) (delete_childless m path above below fits) others less))

    pub changed_without : placed above upper (finite.remove m key) ≡ parent_changed (finite.remove m path) path change
    changed_without = (λ i. placed above (made i) (finite.remove m (text i))) ∙ without_is m path above below (delete_apart m path above below fits) change
