-- Trees with the index of sessions' nodes: the effect of a change of one node.
use Rattle.std.proofs.Common.{◌≡◌, ◌≢◌, ℕ, ℤ, pos, Bool, true, false, cond, not, ◌||◌, ◌&&◌, ◌==◌, List, [], ◌∷◌, length, unwrap_or, codes, is_some, IsSome, Option, Some, None, refl, sym, ap, subst, ◌∙◌}
use Rattle.std.proofs.lemmas.Bool.{false≢true, and_parts, eqb-true, eqb-false}
use Rattle.std.proofs.lemmas.Cmp.{nat_list_cmp_total, int_cmp_total, eq_by_cmp_equiv}
use Rattle.std.specs.FinMap as finite
use Rattle.std.specs.FinMap.{int_cmp-IsAntisymmetric}
use Rattle.std.specs.List.{list_any}
use Rattle.std.specs.Option.{option_map}
use Rattle.std.specs.Ordering.{eq_by_cmp, int_cmp, int_eq}
use Rattle.zk_path.specs.Paths.{parent_of}
use Rattle.zk_table.specs.declared.node.Node.{Node}
use Rattle.zk_table.specs.States.{NodeMap, path_cmp, is_child_of, children_of}
use Rattle.zk_tree.specs.Owners.{set_at, set_found, with_owned, with_set, without_owned, is_noted, is_owner, IsOwned}
use Rattle.zk_tree.specs.Trees.{IsTree, owner_at}
use Rattle.zk_tree.specs.Views.{PathKeys, OwnerMap}
use Rattle.zk_tree.proofs.Branching.{none_not_some, is_child, child_parent}
use Rattle.zk_tree.proofs.Kept.{tied, contains_key-insert, contains_key-remove, get-insert_itself}
use Rattle.zk_tree.proofs.Lists.{same_is, same_itself, no_children, any-children_of}

-- ---- sessions

same_session : (s t : ℤ) → int_eq s t ≡ true → s ≡ t
same_session s t e = int_cmp-IsAntisymmetric s t (tied _ e)

session_itself : (s : ℤ) → int_eq s s ≡ true
session_itself s = (eq_by_cmp_equiv int_cmp_total).refl s

flipped : (s t : ℤ) → int_eq s t ≡ int_eq t s
flipped s t = (eq_by_cmp_equiv int_cmp_total).symm s t

-- ---- the paths in the index

-- whether this session and this path are those that are added or removed
abbrev moved : ℤ → List ℕ → ℤ → List ℕ → Bool
moved session path s q = (not (int_eq session (pos 0)) && int_eq s session) && eq_by_cmp path_cmp q path

noted_at : (o : OwnerMap) (session : ℤ) (set : PathKeys) (s : ℤ) (q : List ℕ) → finite.contains_key (set_found (cond (int_eq s session) (Some set) (finite.get o s))) q ≡ cond (int_eq s session) (finite.contains_key set q) (is_noted o s q)
noted_at o session set s q = elim (int_eq s session) as (λ b. finite.contains_key (set_found (cond b (Some set) (finite.get o s))) q ≡ cond b (finite.contains_key set q) (is_noted o s q)) [ true ↦ refl | false ↦ refl ]

noted-insert : (o : OwnerMap) (session : ℤ) (set : PathKeys) (s : ℤ) (q : List ℕ) → is_noted (finite.insert o session set) s q ≡ cond (int_eq s session) (finite.contains_key set q) (is_noted o s q)
noted-insert o session set s q = ap (λ x. finite.contains_key (set_found x) q) (finite.get-insert int_cmp_total o session set s) ∙ noted_at o session set s q

gone_at : (o : OwnerMap) (session s : ℤ) (q : List ℕ) → finite.contains_key (set_found (cond (int_eq s session) None (finite.get o s))) q ≡ cond (int_eq s session) false (is_noted o s q)
gone_at o session s q = elim (int_eq s session) as (λ b. finite.contains_key (set_found (cond b None (finite.get o s))) q ≡ cond b false (is_noted o s q)) [ true ↦ ap is_some (finite.get-empty path_cmp q) | false ↦ refl ]

noted-remove : (o : OwnerMap) (session s : ℤ) (q : List ℕ) → is_noted (finite.remove o session) s q ≡ cond (int_eq s session) false (is_noted o s q)
noted-remove o session s q = ap (λ x. finite.contains_key (set_found x) q) (finite.get-remove int_cmp_total o session s) ∙ gone_at o session s q

nothing_in : (set : PathKeys) (q : List ℕ) → finite.len set ≡ 0 → finite.contains_key set q ≡ false
nothing_in set q none = ap (λ s. finite.contains_key s q) (finite.empty_of_len set none) ∙ ap is_some (finite.get-empty path_cmp q)

noted-with_set : (o : OwnerMap) (session : ℤ) (set : PathKeys) (s : ℤ) (q : List ℕ) → is_noted (with_set o session set) s q ≡ cond (int_eq s session) (finite.contains_key set q) (is_noted o s q)
noted-with_set o session set s q =
    elim (finite.len set == 0) as (λ b. (finite.len set == 0) ≡ b → is_noted (cond b (finite.remove o session) (finite.insert o session set)) s q ≡ cond (int_eq s session) (finite.contains_key set q) (is_noted o s q)) [
      | true ↦ λ e. noted-remove o session s q ∙ ap (λ b. cond (int_eq s session) b (is_noted o s q)) (sym (nothing_in set q (eqb-true (finite.len set) 0 e)))
      | false ↦ λ e. noted-insert o session set s q
    ] refl

noted-with_owned : (o : OwnerMap) (session : ℤ) (path : List ℕ) (s : ℤ) (q : List ℕ) → is_noted (with_owned o session path) s q ≡ (moved session path s q || is_noted o s q)
noted-with_owned o session path s q =
    elim (int_eq session (pos 0)) as (λ b. is_noted (cond b o (finite.insert o session (finite.insert (set_at o session) path tt))) s q ≡ (((not b && int_eq s session) && eq_by_cmp path_cmp q path) || is_noted o s q)) [
      | true ↦ refl
      | false ↦ noted-insert o session (finite.insert (set_at o session) path tt) s q ∙ elim (int_eq s session) as (λ b. int_eq s session ≡ b → cond b (finite.contains_key (finite.insert (set_at o session) path tt) q) (is_noted o s q) ≡ ((b && eq_by_cmp path_cmp q path) || is_noted o s q)) [
        | true ↦ λ e. contains_key-insert nat_list_cmp_total (set_at o session) path tt q ∙ ap (λ t. eq_by_cmp path_cmp q path || is_noted o t q) (sym (same_session s session e))
        | false ↦ λ e. refl
      ] refl
    ]

noted-without_owned : (o : OwnerMap) (session : ℤ) (path : List ℕ) (s : ℤ) (q : List ℕ) → is_noted (without_owned o session path) s q ≡ (not (moved session path s q) && is_noted o s q)
noted-without_owned o session path s q =
    elim (int_eq session (pos 0)) as (λ b. is_noted (cond b o (with_set o session (finite.remove (set_at o session) path))) s q ≡ (not ((not b && int_eq s session) && eq_by_cmp path_cmp q path) && is_noted o s q)) [
      | true ↦ refl
      | false ↦ noted-with_set o session (finite.remove (set_at o session) path) s q ∙ elim (int_eq s session) as (λ b. int_eq s session ≡ b → cond b (finite.contains_key (finite.remove (set_at o session) path) q) (is_noted o s q) ≡ (not (b && eq_by_cmp path_cmp q path) && is_noted o s q)) [
        | true ↦ λ e. contains_key-remove nat_list_cmp_total (set_at o session) path q ∙ ap (λ t. not (eq_by_cmp path_cmp q path) && is_noted o t q) (sym (same_session s session e))
        | false ↦ λ e. refl
      ] refl
    ]

-- ---- a session without nodes is not in the index

abbrev AreFilled : OwnerMap → Type 0
AreFilled o = (session : ℤ) (set : PathKeys) → finite.get o session ≡ Some set → finite.len set ≢ 0

filled-insert : (o : OwnerMap) (session : ℤ) (set : PathKeys) → AreFilled o → finite.len set ≢ 0 → AreFilled (finite.insert o session set)
filled-insert o session set filled some s t is = found (sym (finite.get-insert int_cmp_total o session set s) ∙ is)
  where
    found : cond (int_eq s session) (Some set) (finite.get o s) ≡ Some t → finite.len t ≢ 0
    found = elim (int_eq s session) as (λ b. cond b (Some set) (finite.get o s) ≡ Some t → finite.len t ≢ 0) [ true ↦ λ e. subst (λ x. finite.len x ≢ 0) (ap (λ o. unwrap_or o t) e) some | false ↦ λ e. filled s t e ]

filled-remove : (o : OwnerMap) (session : ℤ) → AreFilled o → AreFilled (finite.remove o session)
filled-remove o session filled s t is = found (sym (finite.get-remove int_cmp_total o session s) ∙ is)
  where
    found : cond (int_eq s session) None (finite.get o s) ≡ Some t → finite.len t ≢ 0
    found = elim (int_eq s session) as (λ b. cond b None (finite.get o s) ≡ Some t → finite.len t ≢ 0) [ true ↦ λ e. absurd (none_not_some {A = PathKeys} {x = None} refl e) | false ↦ λ e. filled s t e ]

filled_set : (set : PathKeys) (path : List ℕ) → finite.len (finite.insert set path tt) ≢ 0
filled_set set path none = false≢true (sym (nothing_in (finite.insert set path tt) path none) ∙ ap is_some (get-insert_itself nat_list_cmp_total set path tt))

filled-with_owned : (o : OwnerMap) (session : ℤ) (path : List ℕ) → AreFilled o → AreFilled (with_owned o session path)
filled-with_owned o session path filled =
    elim (int_eq session (pos 0)) as (λ b. AreFilled (cond b o (finite.insert o session (finite.insert (set_at o session) path tt)))) [ true ↦ filled | false ↦ filled-insert o session (finite.insert (set_at o session) path tt) filled (filled_set (set_at o session) path) ]

filled-with_set : (o : OwnerMap) (session : ℤ) (set : PathKeys) → AreFilled o → AreFilled (with_set o session set)
filled-with_set o session set filled =
    elim (finite.len set == 0) as (λ b. (finite.len set == 0) ≡ b → AreFilled (cond b (finite.remove o session) (finite.insert o session set))) [ true ↦ λ e. filled-remove o session filled | false ↦ λ e. filled-insert o session set filled (eqb-false (finite.len set) 0 e) ] refl

filled-without_owned : (o : OwnerMap) (session : ℤ) (path : List ℕ) → AreFilled o → AreFilled (without_owned o session path)
filled-without_owned o session path filled =
    elim (int_eq session (pos 0)) as (λ b. AreFilled (cond b o (with_set o session (finite.remove (set_at o session) path)))) [ true ↦ filled | false ↦ filled-with_set o session (finite.remove (set_at o session) path) filled ]

-- ---- tests

or_false : (a : Bool) → (a || false) ≡ a
or_false true = refl
or_false false = refl

and_false : (a : Bool) → (a && false) ≡ false
and_false true = refl
and_false false = refl

-- a session that owns a node, in both directions
owner_told : (session s : ℤ) → (not (int_eq session (pos 0)) && int_eq s session) ≡ (not (int_eq s (pos 0)) && int_eq session s)
owner_told session s =
    elim (int_eq s session) as (λ b. int_eq s session ≡ b → (not (int_eq session (pos 0)) && b) ≡ (not (int_eq s (pos 0)) && int_eq session s)) [
      | true ↦ λ e. ap (λ t. not (int_eq t (pos 0)) && true) (sym (same_session s session e)) ∙ ap (λ b. not (int_eq s (pos 0)) && b) (sym e ∙ flipped s session)
      | false ↦ λ e. and_false (not (int_eq session (pos 0))) ∙ sym (ap (λ b. not (int_eq s (pos 0)) && b) (flipped session s ∙ e) ∙ and_false (not (int_eq s (pos 0))))
    ] refl

-- ---- the root, and parents

some_owner : (nodes : NodeMap) (q : List ℕ) (z : ℤ) → owner_at nodes q ≡ Some z → finite.contains_key nodes q ≡ true
some_owner nodes q z e = from (finite.get nodes q) e
  where
    from : (x : Option Node) → option_map (λ n. n.owner) x ≡ Some z → is_some x ≡ true
    from None e = absurd (none_not_some {A = ℤ} {x = None} refl e)
    from (Some n) e = refl

none_free : (nodes : NodeMap) (q : List ℕ) → finite.contains_key nodes q ≡ false → finite.get nodes q ≡ None
none_free nodes q e = from (finite.get nodes q) e
  where
    from : (x : Option Node) → is_some x ≡ false → x ≡ None
    from None e = refl
    from (Some n) e = absurd (false≢true (sym e))

pub parent_there : (path : List ℕ) → IsSome (parent_of path) → (above : List ℕ) × (parent_of path ≡ Some above)
parent_there path some = from (parent_of path) some
  where
    from : (x : Option (List ℕ)) → IsSome x → (above : List ℕ) × (x ≡ Some above)
    from None e = absurd (false≢true e)
    from (Some above) e = (above, refl)

-- ---- one more node

module _ (nodes : NodeMap) (owners : OwnerMap) (path : List ℕ) (owned : IsOwned nodes owners) (free : finite.contains_key nodes path ≡ false) where
  unlike_free : (q : List ℕ) (z : ℤ) → owner_at nodes q ≡ Some z → eq_by_cmp path_cmp q path ≡ false
  unlike_free q z e =
      elim (eq_by_cmp path_cmp q path) as (λ b. eq_by_cmp path_cmp q path ≡ b → b ≡ false) [
        | true ↦ λ s. absurd (false≢true (sym free ∙ ap (finite.contains_key nodes) (sym (same_is q path s)) ∙ some_owner nodes q z e))
        | false ↦ λ s. refl
      ] refl

  owner_kept : (node : Node) (q : List ℕ) (z : ℤ) → owner_at nodes q ≡ Some z → owner_at (finite.insert nodes path node) q ≡ Some z
  owner_kept node q z e = ap (option_map (λ n. n.owner)) (finite.get-insert nat_list_cmp_total nodes path node q ∙ ap (λ b. cond b (Some node) (finite.get nodes q)) (unlike_free q z e)) ∙ e

  not_noted : (s : ℤ) (q : List ℕ) → eq_by_cmp path_cmp q path ≡ true → is_noted owners s q ≡ false
  not_noted s q e = owned.noted s q ∙ ap (λ k. is_owner s (finite.get nodes k)) (same_is q path e) ∙ ap (is_owner s) (none_free nodes path free)

  noted_put : (node : Node) (s : ℤ) (q : List ℕ) → (moved node.owner path s q || is_noted owners s q) ≡ is_owner s (cond (eq_by_cmp path_cmp q path) (Some node) (finite.get nodes q))
  noted_put node s q =
      elim (eq_by_cmp path_cmp q path) as (λ b. eq_by_cmp path_cmp q path ≡ b → (((not (int_eq node.owner (pos 0)) && int_eq s node.owner) && b) || is_noted owners s q) ≡ is_owner s (cond b (Some node) (finite.get nodes q))) [
        | true ↦ λ e. ap (λ b. ((not (int_eq node.owner (pos 0)) && int_eq s node.owner) && true) || b) (not_noted s q e) ∙ or_false _ ∙ and_true (not (int_eq node.owner (pos 0)) && int_eq s node.owner) ∙ owner_told node.owner s
        | false ↦ λ e. ap (λ b. b || is_noted owners s q) (and_false (not (int_eq node.owner (pos 0)) && int_eq s node.owner)) ∙ owned.noted s q
      ] refl
    where
      and_true : (a : Bool) → (a && true) ≡ a
      and_true true = refl
      and_true false = refl

  module _ (node : Node) (below : (above : List ℕ) → parent_of path ≡ Some above → owner_at nodes above ≡ Some (pos 0)) where
    parents_put : (child above : List ℕ) → finite.contains_key (finite.insert nodes path node) child ≡ true → parent_of child ≡ Some above → owner_at nodes above ≡ Some (pos 0)
    parents_put child above k e =
        elim (eq_by_cmp path_cmp child path) as (λ b. eq_by_cmp path_cmp child path ≡ b → (b || finite.contains_key nodes child) ≡ true → owner_at nodes above ≡ Some (pos 0)) [
          | true ↦ λ s _. below above (ap parent_of (sym (same_is child path s)) ∙ e)
          | false ↦ λ s k. owned.tree.parents child above k e
        ] refl (sym (contains_key-insert nat_list_cmp_total nodes path node child) ∙ k)

    pub owned-put : IsOwned (finite.insert nodes path node) (with_owned owners node.owner path)
    owned-put = record {
      tree = record {
        root = owner_kept node (codes "/") (pos 0) owned.tree.root;
        parents = λ child above k e. owner_kept node above (pos 0) (parents_put child above k e);
      };
      noted = λ s q. noted-with_owned owners node.owner path s q ∙ noted_put node s q ∙ ap (is_owner s) (sym (finite.get-insert nat_list_cmp_total nodes path node q));
      filled = filled-with_owned owners node.owner path owned.filled;
    }

  -- added to the index, and removed
  back_again : (session s : ℤ) (q : List ℕ) → (not (moved session path s q) && (moved session path s q || is_noted owners s q)) ≡ is_noted owners s q
  back_again session s q =
      elim (eq_by_cmp path_cmp q path) as (λ b. eq_by_cmp path_cmp q path ≡ b → (not ((not (int_eq session (pos 0)) && int_eq s session) && b) && (((not (int_eq session (pos 0)) && int_eq s session) && b) || is_noted owners s q)) ≡ is_noted owners s q) [
        | true ↦ λ e. ap (λ b. not (a && true) && ((a && true) || b)) (not_noted s q e) ∙ never (a && true) ∙ sym (not_noted s q e)
        | false ↦ λ e. ap (λ b. not b && (b || is_noted owners s q)) (and_false a)
      ] refl
    where
      a : Bool
      a = not (int_eq session (pos 0)) && int_eq s session

      never : (a : Bool) → (not a && (a || false)) ≡ false
      never true = refl
      never false = refl

  pub owned-unput : (session : ℤ) → IsOwned nodes (without_owned (with_owned owners session path) session path)
  owned-unput session = record {
    tree = owned.tree;
    noted = λ s q. noted-without_owned (with_owned owners session path) session path s q ∙ ap (λ b. not (moved session path s q) && b) (noted-with_owned owners session path s q) ∙ back_again session s q ∙ owned.noted s q;
    filled = filled-without_owned (with_owned owners session path) session path (filled-with_owned owners session path owned.filled);
  }

-- ---- one node less

module _ (nodes : NodeMap) (owners : OwnerMap) (path above : List ℕ) (node : Node) (owned : IsOwned nodes owners) (here : finite.get nodes path ≡ Some node) (below : parent_of path ≡ Some above) (childless : length (children_of nodes path) ≡ 0) where
  owner_left : (q : List ℕ) (z : ℤ) → eq_by_cmp path_cmp q path ≡ false → owner_at nodes q ≡ Some z → owner_at (finite.remove nodes path) q ≡ Some z
  owner_left q z apart e = ap (option_map (λ n. n.owner)) (finite.get-remove nat_list_cmp_total nodes path q ∙ ap (λ b. cond b None (finite.get nodes q)) apart) ∙ e

  not_root : eq_by_cmp path_cmp (codes "/") path ≡ false
  not_root =
      elim (eq_by_cmp path_cmp (codes "/") path) as (λ b. eq_by_cmp path_cmp (codes "/") path ≡ b → b ≡ false) [
        | true ↦ λ s. absurd (none_not_some {A = List ℕ} {x = None} refl (ap parent_of (same_is (codes "/") path s) ∙ below))
        | false ↦ λ s. refl
      ] refl

  not_above : (child p : List ℕ) → finite.contains_key nodes child ≡ true → parent_of child ≡ Some p → eq_by_cmp path_cmp p path ≡ false
  not_above child p k e =
      elim (eq_by_cmp path_cmp p path) as (λ b. eq_by_cmp path_cmp p path ≡ b → b ≡ false) [
        | true ↦ λ s. absurd (false≢true (sym (no_children nodes path childless child) ∙ ap (λ b. b && finite.contains_key nodes child) (is_child path child (e ∙ ap Some (same_is p path s))) ∙ k))
        | false ↦ λ s. refl
      ] refl

  still : (child : List ℕ) → finite.contains_key (finite.remove nodes path) child ≡ true → finite.contains_key nodes child ≡ true
  still child k = right (not (eq_by_cmp path_cmp child path)) (sym (contains_key-remove nat_list_cmp_total nodes path child) ∙ k)
    where
      right : (a : Bool) → (a && finite.contains_key nodes child) ≡ true → finite.contains_key nodes child ≡ true
      right true e = e
      right false e = absurd (false≢true e)

  noted_taken : (s : ℤ) (q : List ℕ) → (not (moved node.owner path s q) && is_noted owners s q) ≡ is_owner s (cond (eq_by_cmp path_cmp q path) None (finite.get nodes q))
  noted_taken s q =
      elim (eq_by_cmp path_cmp q path) as (λ b. eq_by_cmp path_cmp q path ≡ b → (not ((not (int_eq node.owner (pos 0)) && int_eq s node.owner) && b) && is_noted owners s q) ≡ is_owner s (cond b None (finite.get nodes q))) [
        | true ↦ λ e. ap (λ b. not (a && true) && b) (owned.noted s q ∙ ap (λ k. is_owner s (finite.get nodes k)) (same_is q path e) ∙ ap (is_owner s) here ∙ sym (owner_told node.owner s)) ∙ never a
        | false ↦ λ e. ap (λ b. not b && is_noted owners s q) (and_false a) ∙ owned.noted s q
      ] refl
    where
      a : Bool
      a = not (int_eq node.owner (pos 0)) && int_eq s node.owner

      never : (a : Bool) → (not (a && true) && a) ≡ false
      never true = refl
      never false = refl

  pub owned-taken : IsOwned (finite.remove nodes path) (without_owned owners node.owner path)
  owned-taken = record {
    tree = record {
      root = owner_left (codes "/") (pos 0) not_root owned.tree.root;
      parents = λ child p k e. owner_left p (pos 0) (not_above child p (still child k) e) (owned.tree.parents child p (still child k) e);
    };
    noted = λ s q. noted-without_owned owners node.owner path s q ∙ noted_taken s q ∙ ap (is_owner s) (sym (finite.get-remove nat_list_cmp_total nodes path q));
    filled = filled-without_owned owners node.owner path owned.filled;
  }

-- ---- a replacement with the same owner

module _ (nodes : NodeMap) (owners : OwnerMap) (path : List ℕ) (node : Node) (owned : IsOwned nodes owners) (same : owner_at nodes path ≡ Some node.owner) where
  owner_turned : (q : List ℕ) → owner_at (finite.insert nodes path node) q ≡ owner_at nodes q
  owner_turned q =
      ap (option_map (λ n. n.owner)) (finite.get-insert nat_list_cmp_total nodes path node q)
      ∙ elim (eq_by_cmp path_cmp q path) as (λ b. eq_by_cmp path_cmp q path ≡ b → option_map (λ n. n.owner) (cond b (Some node) (finite.get nodes q)) ≡ owner_at nodes q) [
        | true ↦ λ e. sym same ∙ ap (owner_at nodes) (sym (same_is q path e))
        | false ↦ λ e. refl
      ] refl

  tested : ℤ → Option ℤ → Bool
  tested s None = false
  tested s (Some owner) = not (int_eq s (pos 0)) && int_eq owner s

  by_owner : (s : ℤ) (x : Option Node) → is_owner s x ≡ tested s (option_map (λ n. n.owner) x)
  unfolding tested
  by_owner s None = refl
  by_owner s (Some n) = refl

  keys_turned : (q : List ℕ) → finite.contains_key (finite.insert nodes path node) q ≡ true → finite.contains_key nodes q ≡ true
  keys_turned q k =
      elim (eq_by_cmp path_cmp q path) as (λ b. eq_by_cmp path_cmp q path ≡ b → (b || finite.contains_key nodes q) ≡ true → finite.contains_key nodes q ≡ true) [
        | true ↦ λ e _. ap (finite.contains_key nodes) (same_is q path e) ∙ some_owner nodes path node.owner same
        | false ↦ λ e k. k
      ] refl (sym (contains_key-insert nat_list_cmp_total nodes path node q) ∙ k)

  pub owned-changed : IsOwned (finite.insert nodes path node) owners
  owned-changed = record {
    tree = record {
      root = owner_turned (codes "/") ∙ owned.tree.root;
      parents = λ child p k e. owner_turned p ∙ owned.tree.parents child p (keys_turned child k) e;
    };
    noted = λ s q. owned.noted s q ∙ by_owner s (finite.get nodes q) ∙ ap (tested s) (sym (owner_turned q)) ∙ sym (by_owner s (finite.get (finite.insert nodes path node) q));
    filled = owned.filled;
  }

-- ---- the root alone

module _ (root : List ℕ) (node : Node) (is : root ≡ codes "/") (free : node.owner ≡ pos 0) where
  get-alone : (q : List ℕ) → finite.get (finite.insert (finite.empty {X = Node} {R = path_cmp}) root node) q ≡ cond (eq_by_cmp path_cmp q root) (Some node) None
  get-alone q = finite.get-insert nat_list_cmp_total finite.empty root node q ∙ ap (cond (eq_by_cmp path_cmp q root) (Some node)) (finite.get-empty path_cmp q)

  only_root : (q : List ℕ) → finite.contains_key (finite.insert (finite.empty {X = Node} {R = path_cmp}) root node) q ≡ true → q ≡ codes "/"
  only_root q k =
      elim (eq_by_cmp path_cmp q root) as (λ b. eq_by_cmp path_cmp q root ≡ b → is_some (cond b (Some node) None) ≡ true → q ≡ codes "/") [
        | true ↦ λ e _. same_is q root e ∙ is
        | false ↦ λ e k. absurd (false≢true k)
      ] refl (sym (ap is_some (get-alone q)) ∙ k)

  nobody_owns : (s : ℤ) (q : List ℕ) → is_owner s (cond (eq_by_cmp path_cmp q root) (Some node) None) ≡ false
  nobody_owns s q =
      elim (eq_by_cmp path_cmp q root) as (λ b. is_owner s (cond b (Some node) None) ≡ false) [
        | true ↦ ap (λ z. not (int_eq s (pos 0)) && int_eq z s) free ∙ ap (λ b. not (int_eq s (pos 0)) && b) (flipped (pos 0) s) ∙ never (int_eq s (pos 0))
        | false ↦ refl
      ]
    where
      never : (a : Bool) → (not a && a) ≡ false
      never true = refl
      never false = refl

  noted_nowhere : (s : ℤ) (q : List ℕ) → is_noted finite.empty s q ≡ false
  noted_nowhere s q = ap (λ x. finite.contains_key (set_found x) q) (finite.get-empty int_cmp s) ∙ ap is_some (finite.get-empty path_cmp q)

  pub owned-alone : IsOwned (finite.insert finite.empty root node) finite.empty
  owned-alone = record {
    tree = record {
      root = ap (option_map (λ n. n.owner)) (get-alone (codes "/") ∙ ap (λ k. cond (eq_by_cmp path_cmp k root) (Some node) None) (sym is) ∙ ap (λ b. cond b (Some node) None) (same_itself root)) ∙ ap Some free;
      parents = λ child p k e. absurd (none_not_some {A = List ℕ} {x = None} refl (sym (ap parent_of (only_root child k)) ∙ e));
    };
    noted = λ s q. noted_nowhere s q ∙ sym (ap (is_owner s) (get-alone q) ∙ nobody_owns s q);
    filled = λ s set there. absurd (none_not_some (finite.get-empty int_cmp s) there);
  }

-- ---- a node with an owner has no children

pub owned_childless : (nodes : NodeMap) (path : List ℕ) → IsTree nodes → (owner_at nodes path ≡ Some (pos 0) → ⊥) → length (children_of nodes path) ≡ 0
owned_childless nodes path tree owned = from (children_of nodes path) (any-children_of nodes path)
  where
    from : (xs : List (List ℕ)) → ((q : List ℕ) → (is_child_of path q && finite.contains_key nodes q) ≡ list_any (eq_by_cmp path_cmp q) xs) → length xs ≡ 0
    from [] any = refl
    from (x ∷ xs) any =
        let both = and_parts (is_child_of path x) (finite.contains_key nodes x) (any x ∙ ap (λ b. b || list_any (eq_by_cmp path_cmp x) xs) (same_itself x)) in
        absurd (owned (tree.parents x path both.1 (child_parent path x both.0)))
