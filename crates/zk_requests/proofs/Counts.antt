-- The numbers of children after a node was added or removed.
use Rattle.std.proofs.Common.{◌≡◌, ℕ, ◌+◌, ◌-◌, Bool, true, false, cond, not, ◌&&◌, List, length, Option, Some, None, is_some, Equal, refl, sym, ap, ◌∙◌}
use Rattle.std.proofs.lemmas.Cmp.{nat_list_cmp_total}
use Rattle.std.proofs.lemmas.List.Kept.{IsStrictlySortedBy-filter}
use Rattle.std.specs.FinMap as finite
use Rattle.std.specs.Ordering.{eq_by_cmp}
use Rattle.zk_table.specs.declared.node.Node.{Node}
use Rattle.zk_table.specs.States.{NodeMap, path_cmp, is_child_of, children_of}
use Rattle.zk_tree.proofs.Kept.{path_cmp-IsAntisymmetric}
use Rattle.zk_tree.proofs.Lists.{same_is, rising_keys, keys_are, len-keys, any-children_of}
use Rattle.zk_requests.specs.Overlays.{count_of}

-- ---- the nodes at the paths that pass a test

module _ (m : NodeMap) (f : List ℕ → Bool) where
  abbrev kept : NodeMap
  kept = finite.retain_keys m f

  get-kept : (q : List ℕ) → finite.get kept q ≡ cond (f q) (finite.get m q) None
  get-kept q = finite.get-retain_keys m f q (λ x e. ap f (sym (path_cmp-IsAntisymmetric q x e)))

some_kept : (b : Bool) (x : Option Node) → is_some (cond b x None) ≡ (b && is_some x)
some_kept true x = refl
some_kept false x = refl

contains-kept : (m : NodeMap) (f : List ℕ → Bool) (q : List ℕ) → finite.contains_key (finite.retain_keys m f) q ≡ (f q && finite.contains_key m q)
contains-kept m f q = ap is_some (get-kept m f q) ∙ some_kept (f q) (finite.get m q)

-- a path's children are counted by the nodes at its children
len_is_count : (m : NodeMap) (path : List ℕ) → finite.len (finite.retain_keys m (is_child_of path)) ≡ count_of m path
len_is_count m path =
    len-keys (finite.retain_keys m (is_child_of path))
    ∙ ap length (keys_are (finite.retain_keys m (is_child_of path)) (children_of m path) (IsStrictlySortedBy-filter path_cmp (is_child_of path) (finite.keys m) (rising_keys m)) (λ q. contains-kept m (is_child_of path) q ∙ any-children_of m path q))

-- ---- one more node

module _ (m : NodeMap) (f : List ℕ → Bool) (path : List ℕ) (node : Node) where
  abbrev kept_with : Bool → NodeMap
  kept_with b = cond b (finite.insert (finite.retain_keys m f) path node) (finite.retain_keys m f)

  at_kept : (q : List ℕ) (same : Bool) → eq_by_cmp path_cmp q path ≡ same → (passes : Bool) → f path ≡ passes → cond (f q) (cond same (Some node) (finite.get m q)) None ≡ finite.get (kept_with passes) q
  at_kept q true s true p =
      ap (λ b. cond b (Some node) None) (ap f (same_is q path s) ∙ p) ∙ sym (finite.get-insert nat_list_cmp_total (finite.retain_keys m f) path node q ∙ ap (λ b. cond b (Some node) (finite.get (finite.retain_keys m f) q)) s)
  at_kept q true s false p =
      ap (λ b. cond b (Some node) None) (ap f (same_is q path s) ∙ p) ∙ sym (get-kept m f q ∙ ap (λ b. cond b (finite.get m q) None) (ap f (same_is q path s) ∙ p))
  at_kept q false s true p =
      sym (finite.get-insert nat_list_cmp_total (finite.retain_keys m f) path node q ∙ ap (λ b. cond b (Some node) (finite.get (finite.retain_keys m f) q)) s ∙ get-kept m f q)
  at_kept q false s false p = sym (get-kept m f q)

  kept-insert : finite.retain_keys (finite.insert m path node) f ≡ kept_with (f path)
  kept-insert =
      finite.same_map nat_list_cmp_total path_cmp-IsAntisymmetric _ _ (λ q. get-kept (finite.insert m path node) f q
      ∙ ap (λ x. cond (f q) x None) (finite.get-insert nat_list_cmp_total m path node q)
      ∙ at_kept q _ refl _ refl)

  len_with : (b : Bool) → f path ≡ b → finite.len (kept_with b) ≡ cond (b && not (finite.contains_key m path)) (finite.len (finite.retain_keys m f) + 1) (finite.len (finite.retain_keys m f))
  len_with true p =
      finite.len-insert nat_list_cmp_total (finite.retain_keys m f) path node
      ∙ ap (λ b. cond b (finite.len (finite.retain_keys m f)) (finite.len (finite.retain_keys m f) + 1)) (contains-kept m f path ∙ ap (λ b. b && finite.contains_key m path) p)
      ∙ turned (finite.contains_key m path) _ _
    where
      turned : (b : Bool) (x y : ℕ) → cond b x y ≡ cond (not b) y x
      turned true x y = refl
      turned false x y = refl
  len_with false p = refl

pub count-insert : (m : NodeMap) (path : List ℕ) (node : Node) (q : List ℕ) → count_of (finite.insert m path node) q ≡ cond (is_child_of q path && not (finite.contains_key m path)) (count_of m q + 1) (count_of m q)
count-insert m path node q =
    sym (len_is_count (finite.insert m path node) q)
    ∙ ap finite.len (kept-insert m (is_child_of q) path node)
    ∙ len_with m (is_child_of q) path node _ refl
    ∙ ap (λ n. cond (is_child_of q path && not (finite.contains_key m path)) (n + 1) n) (len_is_count m q)

-- ---- one node less

kept-remove : (m : NodeMap) (f : List ℕ → Bool) (path : List ℕ) → finite.retain_keys (finite.remove m path) f ≡ finite.remove (finite.retain_keys m f) path
kept-remove m f path =
    finite.same_map nat_list_cmp_total path_cmp-IsAntisymmetric _ _ (λ q. get-kept (finite.remove m path) f q
    ∙ ap (λ x. cond (f q) x None) (finite.get-remove nat_list_cmp_total m path q)
    ∙ either (f q) (eq_by_cmp path_cmp q path) (finite.get m q)
    ∙ ap (cond (eq_by_cmp path_cmp q path) None) (sym (get-kept m f q))
    ∙ sym (finite.get-remove nat_list_cmp_total (finite.retain_keys m f) path q))
  where
    either : (a b : Bool) (x : Option Node) → cond a (cond b None x) None ≡ cond b None (cond a x None)
    either true b x = refl
    either false true x = refl
    either false false x = refl

pub count-remove : (m : NodeMap) (path q : List ℕ) → count_of (finite.remove m path) q ≡ cond (is_child_of q path && finite.contains_key m path) (count_of m q - 1) (count_of m q)
count-remove m path q =
    sym (len_is_count (finite.remove m path) q)
    ∙ ap finite.len (kept-remove m (is_child_of q) path)
    ∙ finite.len-remove nat_list_cmp_total (finite.retain_keys m (is_child_of q)) path
    ∙ ap (λ b. cond b (finite.len (finite.retain_keys m (is_child_of q)) - 1) (finite.len (finite.retain_keys m (is_child_of q)))) (contains-kept m (is_child_of q) path)
    ∙ ap (λ n. cond (is_child_of q path && finite.contains_key m path) (n - 1) n) (len_is_count m q)
