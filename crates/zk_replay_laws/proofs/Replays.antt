-- A draft's nodes, change by change.
use Rattle.std.proofs.Common.{◌≡◌, ◌≢◌, ◌⊎◌, inl, inr, ℕ, ℤ, ◌<◌, List, [], ◌∷◌, ◌++◌, length, true, false, is_some, Option, Some, None, refl, sym, ap, ◌∙◌, ⊎_elim, arith}
use Rattle.std.proofs.lemmas.Bool.{cond-true, cond-false, false_from_ne_true}
use Rattle.std.specs.FinMap.{get, insert}
use Rattle.zk_path.specs.Paths.{parent_of, is_root}
use Rattle.zk_table.specs.declared.node.Node.{Node}
use Rattle.zk_replay.specs.Drafts as drafts
use Rattle.zk_replay.specs.declared.draft_node.DraftNode.{DraftNode}
use Rattle.zk_replay.specs.Drafts.{DraftMap, removed, fresh, with_child, without_child}
use Rattle.zk_replay_laws.proofs.Paths.{IsBelow, below_parent, filled_is_not_root, some_inj, none_some}
use Rattle.zk_replay_laws.proofs.Gets.{cases_path, cases_below, get_inserted, get_inserted_elsewhere, draft_changed_at, draft_changed_elsewhere, draft_changed_absent}
use Rattle.zk_replay_laws.proofs.Changes.{Makes, Deletes, replayed}
use Rattle.zk_replay_laws.proofs.Servers.{apart, apart_back}
use Rattle.zk_replay_laws.proofs.Removals.{IsMarked, IsDraftTree, removed_at, removed_elsewhere, removed_below}

-- ---- lengths

pub below_longer : (path q : List ℕ) → IsBelow path q → length path < length q
below_longer path q below = let e = ap length below.1 in let less = longer path below.0 in omega (arith, e, less)
  where
    longer : (xs rest : List ℕ) → length xs < length (xs ++ 47 ∷ rest)
    longer [] rest = omega arith
    longer (x ∷ xs) rest = let h = longer xs rest in omega (arith, h)

pub not_below_shorter : (path q : List ℕ) → length q < length path → IsBelow path q → ⊥
not_below_shorter path q less below = let more = below_longer path q below in absurd (omega (arith, less, more))

pub has_parent : (path above : List ℕ) → parent_of path ≡ Some above → is_root path ≡ false
has_parent path above parent = false_from_ne_true _ (λ root. none_some (sym (cond-true (is_root path) None _ root) ∙ parent))

below_twice : (path middle q : List ℕ) → path ≢ [] → IsBelow path middle → parent_of q ≡ Some middle → IsBelow path q
below_twice path middle q filled below parent =
    let from = below_parent q middle parent (ap is_root below.1 ∙ filled_is_not_root path below.0 filled) in
    (below.0 ++ 47 ∷ from.0, from.1 ∙ ap (λ xs. xs ++ 47 ∷ from.0) below.1 ∙ joined path below.0 from.0)
  where
    append : (xs ys zs : List ℕ) → (xs ++ ys) ++ zs ≡ xs ++ (ys ++ zs)
    append [] ys zs = refl
    append (x ∷ xs) ys zs = ap (λ l. x ∷ l) (append xs ys zs)

    joined : (p r s : List ℕ) → (p ++ 47 ∷ r) ++ 47 ∷ s ≡ p ++ 47 ∷ (r ++ 47 ∷ s)
    joined p r s = append p (47 ∷ r) (47 ∷ s)

-- ---- a tree stays one where a path was removed

-- a node that was there, not at the path, nor below it
pub record IsOld (d : DraftMap) (path q : List ℕ) (new : DraftNode) : Type 0 where
  pub old : DraftNode
  pub there : get d q ≡ Some old
  pub same : new.path ≡ old.path
  pub not_path : q ≢ path
  pub apart : IsBelow path q → ⊥

-- the node at the path
pub record IsNew (d' : DraftMap) (path q : List ℕ) (new : DraftNode) : Type 0 where
  pub at : q ≡ path
  pub keyed : new.path ≡ q
  pub parent : (b : List ℕ) → parent_of q ≡ Some b → IsMarked d' b
  pub shorter : (b : List ℕ) → parent_of q ≡ Some b → length b < length q

module _ (d d' : DraftMap) (path : List ℕ) (filled : path ≢ []) (not_root : is_root path ≡ false) (tree : IsDraftTree d) (back : (q : List ℕ) (new : DraftNode) → get d' q ≡ Some new → IsNew d' path q new ⊎ IsOld d path q new) (forth : (b : List ℕ) → b ≢ path → (IsBelow path b → ⊥) → IsMarked d b → IsMarked d' b) where
  old_closed : (q b : List ℕ) (new : DraftNode) → IsOld d path q new → parent_of q ≡ Some b → IsMarked d' b
  old_closed q b new old parent =
      forth b
      (λ e. old.apart (below_parent q path (parent ∙ ap Some e) not_root))
      (λ below. old.apart (below_twice path b q filled below parent))
      (tree.closed q b (old.old, old.there) parent)

  pub tree_after : IsDraftTree d'
  tree_after = record {
    keyed = λ q new there. ⊎_elim (λ n. n.keyed) (λ old. old.same ∙ tree.keyed q old.old old.there) (back q new there);
    closed = λ q b there parent. ⊎_elim (λ n. n.parent b parent) (λ old. old_closed q b there.0 old parent) (back q there.0 there.1);
    shorter = λ q b there parent. ⊎_elim (λ n. n.shorter b parent) (λ old. tree.shorter q b (old.old, old.there) parent) (back q there.0 there.1);
  }

-- ---- a create whose parent is there

module _ (d : DraftMap) (zxid : ℤ) (path above : List ℕ) (node : Node) (count : ℤ) (filled : path ≢ []) (parent : parent_of path ≡ Some above) (shorter : length above < length path) (parent_node : DraftNode) (there : get d above ≡ Some parent_node) where
  abbrev inserted : DraftMap
  inserted = insert (removed d path) path (fresh path node)

  remade : replayed d (Makes zxid path above node count) ≡ drafts.changed inserted above (with_child zxid count)
  remade = cond-true (is_some (get d above)) _ d (ap is_some there)

  abbrev new : DraftMap
  new = replayed d (Makes zxid path above node count)

  pub remade_at : get (replayed d (Makes zxid path above node count)) path ≡ Some (fresh path node)
  remade_at = ap (λ m. get m path) remade ∙ draft_changed_elsewhere inserted above (with_child zxid count) path (apart path above shorter) ∙ get_inserted (removed d path) path (fresh path node)

  pub remade_above : get (replayed d (Makes zxid path above node count)) above ≡ Some (with_child zxid count parent_node)
  remade_above =
      ap (λ m. get m above) remade
      ∙ draft_changed_at inserted above (with_child zxid count) parent_node
      (get_inserted_elsewhere (removed d path) path (fresh path node) above (apart_back path above shorter) ∙ removed_elsewhere d path above (apart_back path above shorter) (not_below_shorter path above shorter) ∙ there)

  pub remade_below : IsDraftTree d → (q : List ℕ) → IsBelow path q → get (replayed d (Makes zxid path above node count)) q ≡ None
  remade_below tree q below =
      let longer = below_longer path q below in
      ap (λ m. get m q) remade
      ∙ draft_changed_elsewhere inserted above (with_child zxid count) q (λ e. let same = ap length e in absurd (omega (arith, same, longer, shorter)))
      ∙ get_inserted_elsewhere (removed d path) path (fresh path node) q (λ e. let same = ap length e in absurd (omega (arith, same, longer)))
      ∙ removed_below d path tree filled q below

  pub remade_elsewhere : (q : List ℕ) → q ≢ path → q ≢ above → (IsBelow path q → ⊥) → get (replayed d (Makes zxid path above node count)) q ≡ get d q
  remade_elsewhere q not_path not_above apart_from =
      ap (λ m. get m q) remade
      ∙ draft_changed_elsewhere inserted above (with_child zxid count) q not_above
      ∙ get_inserted_elsewhere (removed d path) path (fresh path node) q not_path
      ∙ removed_elsewhere d path q not_path apart_from

  marked_still : (b : List ℕ) → b ≢ path → (IsBelow path b → ⊥) → IsMarked d b → IsMarked new b
  marked_still b not_path apart_from marked =
      ⊎_elim
      (λ e. (with_child zxid count parent_node, (ap (get new) e ∙ remade_above, refl)))
      (λ other. (marked.0, (remade_elsewhere b not_path other apart_from ∙ marked.1.0, marked.1.1)))
      (cases_path b above)

  made_back : IsDraftTree d → (q : List ℕ) (x : DraftNode) → get new q ≡ Some x → IsNew new path q x ⊎ IsOld d path q x
  made_back tree q x found =
      ⊎_elim
      (λ e. inl (record {
        at = e;
        keyed = ap (λ y. y.path) (some_inj (sym found ∙ ap (get new) e ∙ remade_at)) ∙ sym e;
        parent = λ b is. (with_child zxid count parent_node, (ap (get new) (some_inj (sym is ∙ ap parent_of e ∙ parent)) ∙ remade_above, refl));
        shorter = λ b is. let same = ap length e in let at_above = ap length (some_inj (sym is ∙ ap parent_of e ∙ parent)) in omega (arith, same, at_above, shorter);
      }))
      (λ not_path. ⊎_elim
      (λ below. absurd (none_some (sym (remade_below tree q below) ∙ found)))
      (λ apart_from. inr (⊎_elim
      (λ e. record {
        old = parent_node;
        there = ap (get d) e ∙ there;
        same = ap (λ y. y.path) (some_inj (sym found ∙ ap (get new) e ∙ remade_above));
        not_path = not_path;
        apart = apart_from;
      })
      (λ other. record { old = x; there = sym (remade_elsewhere q not_path other apart_from) ∙ found; same = refl; not_path = not_path; apart = apart_from })
      (cases_path q above)))
      (cases_below path q))
      (cases_path q path)

  pub made_tree : IsDraftTree d → IsDraftTree (replayed d (Makes zxid path above node count))
  made_tree tree = tree_after d new path filled (has_parent path above parent) tree (made_back tree) marked_still

-- a create without its parent changes nothing
pub unmade : (d : DraftMap) (zxid : ℤ) (path above : List ℕ) (node : Node) (count : ℤ) → get d above ≡ None → replayed d (Makes zxid path above node count) ≡ d
unmade d zxid path above node count none = cond-false (is_some (get d above)) _ d (ap is_some none)

-- ---- a delete

module _ (d : DraftMap) (zxid : ℤ) (path above : List ℕ) (filled : path ≢ []) (parent : parent_of path ≡ Some above) (shorter : length above < length path) where
  abbrev left : DraftMap
  left = replayed d (Deletes zxid path above)

  pub lost_at : get (replayed d (Deletes zxid path above)) path ≡ None
  lost_at = draft_changed_elsewhere (removed d path) above (without_child zxid) path (apart path above shorter) ∙ removed_at d path

  kept_above : get (removed d path) above ≡ get d above
  kept_above = removed_elsewhere d path above (apart_back path above shorter) (not_below_shorter path above shorter)

  pub lost_above : (parent_node : DraftNode) → get d above ≡ Some parent_node → get (replayed d (Deletes zxid path above)) above ≡ Some (without_child zxid parent_node)
  lost_above parent_node there = draft_changed_at (removed d path) above (without_child zxid) parent_node (kept_above ∙ there)

  pub lost_no_parent : get d above ≡ None → get (replayed d (Deletes zxid path above)) above ≡ None
  lost_no_parent none = ap (λ m. get m above) (draft_changed_absent (removed d path) above (without_child zxid) (kept_above ∙ none)) ∙ kept_above ∙ none

  pub lost_below : IsDraftTree d → (q : List ℕ) → IsBelow path q → get (replayed d (Deletes zxid path above)) q ≡ None
  lost_below tree q below =
      let longer = below_longer path q below in
      draft_changed_elsewhere (removed d path) above (without_child zxid) q (λ e. let same = ap length e in absurd (omega (arith, same, longer, shorter)))
      ∙ removed_below d path tree filled q below

  pub lost_elsewhere : (q : List ℕ) → q ≢ path → q ≢ above → (IsBelow path q → ⊥) → get (replayed d (Deletes zxid path above)) q ≡ get d q
  lost_elsewhere q not_path not_above apart_from =
      draft_changed_elsewhere (removed d path) above (without_child zxid) q not_above ∙ removed_elsewhere d path q not_path apart_from

  marked_left : (b : List ℕ) → b ≢ path → (IsBelow path b → ⊥) → IsMarked d b → IsMarked left b
  marked_left b not_path apart_from marked =
      ⊎_elim
      (λ e. (without_child zxid marked.0, (ap (get left) e ∙ lost_above marked.0 (ap (get d) (sym e) ∙ marked.1.0), marked.1.1)))
      (λ other. (marked.0, (lost_elsewhere b not_path other apart_from ∙ marked.1.0, marked.1.1)))
      (cases_path b above)

  old_above : (q : List ℕ) (x : DraftNode) (o : Option DraftNode) → get d above ≡ o → get left q ≡ Some x → q ≡ above → IsOld d path q x
  old_above q x None is found e = absurd (none_some (sym (lost_no_parent is) ∙ ap (get left) (sym e) ∙ found))
  old_above q x (Some y) is found e = record {
    old = y;
    there = ap (get d) e ∙ is;
    same = ap (λ z. z.path) (some_inj (sym found ∙ ap (get left) e ∙ lost_above y is));
    not_path = λ at. apart_back path above shorter (sym e ∙ at);
    apart = λ below. not_below_shorter path above shorter (below.0, sym e ∙ below.1);
  }

  lost_back : IsDraftTree d → (q : List ℕ) (x : DraftNode) → get left q ≡ Some x → IsNew left path q x ⊎ IsOld d path q x
  lost_back tree q x found =
      ⊎_elim
      (λ e. absurd (none_some (sym lost_at ∙ ap (get left) (sym e) ∙ found)))
      (λ not_path. ⊎_elim
      (λ below. absurd (none_some (sym (lost_below tree q below) ∙ found)))
      (λ apart_from. inr (⊎_elim
      (λ e. old_above q x (get d above) refl found e)
      (λ other. record { old = x; there = sym (lost_elsewhere q not_path other apart_from) ∙ found; same = refl; not_path = not_path; apart = apart_from })
      (cases_path q above)))
      (cases_below path q))
      (cases_path q path)

  pub lost_tree : IsDraftTree d → IsDraftTree (replayed d (Deletes zxid path above))
  lost_tree tree = tree_after d left path filled (has_parent path above parent) tree (lost_back tree) marked_left

-- ---- a change of one node

module _ (d : DraftMap) (path : List ℕ) (change : DraftNode → DraftNode) (keeps_path : (x : DraftNode) → (change x).path ≡ x.path) (keeps_mark : (x : DraftNode) → x.had_children ≡ true → (change x).had_children ≡ true) where
  abbrev turned : DraftMap
  turned = drafts.changed d path change

  old_of : (q : List ℕ) (x : DraftNode) → get turned q ≡ Some x → (y : DraftNode) × ((get d q ≡ Some y) × (x.path ≡ y.path))
  old_of q x found = ⊎_elim (λ e. at e (get d path) refl) (λ other. (x, (sym (draft_changed_elsewhere d path change q other) ∙ found, refl))) (cases_path q path)
    where
      at : q ≡ path → (o : Option DraftNode) → get d path ≡ o → (y : DraftNode) × ((get d q ≡ Some y) × (x.path ≡ y.path))
      at e None is = (x, (ap (λ m. get m q) (sym (draft_changed_absent d path change is)) ∙ found, refl))
      at e (Some y) is = (y, (ap (get d) e ∙ is, ap (λ z. z.path) (some_inj (sym found ∙ ap (get turned) e ∙ draft_changed_at d path change y is)) ∙ keeps_path y))

  marked_turned : (b : List ℕ) → IsMarked d b → IsMarked turned b
  marked_turned b marked =
      ⊎_elim
      (λ e. (change marked.0, (ap (get turned) e ∙ draft_changed_at d path change marked.0 (ap (get d) (sym e) ∙ marked.1.0), keeps_mark marked.0 marked.1.1)))
      (λ other. (marked.0, (draft_changed_elsewhere d path change b other ∙ marked.1.0, marked.1.1)))
      (cases_path b path)

  pub turned_tree : IsDraftTree d → IsDraftTree (drafts.changed d path change)
  turned_tree tree = record {
    keyed = λ q x found. let old = old_of q x found in old.1.1 ∙ tree.keyed q old.0 old.1.0;
    closed = λ q b there parent. let old = old_of q there.0 there.1 in marked_turned b (tree.closed q b (old.0, old.1.0) parent);
    shorter = λ q b there parent. let old = old_of q there.0 there.1 in tree.shorter q b (old.0, old.1.0) parent;
  }
