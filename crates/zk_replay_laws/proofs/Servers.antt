-- A server's nodes, change by change.
use Rattle.std.proofs.Common.{◌≡◌, ◌≢◌, ◌⊎◌, inl, inr, ℕ, ℤ, List, length, ◌<◌, Some, None, refl, sym, ap, ◌∙◌, ⊎_elim, arith}
use Rattle.std.specs.FinMap.{get, insert, remove}
use Rattle.zk_path.specs.Paths.{parent_of}
use Rattle.zk_table.specs.declared.node.Node.{Node}
use Rattle.zk_table.specs.Nodes as nodes
use Rattle.zk_table.specs.States.{NodeMap, changed}
use Rattle.zk_replay_laws.proofs.Paths.{some_inj, none_some}
use Rattle.zk_replay_laws.proofs.Gets.{cases_path, get_inserted, get_inserted_elsewhere, get_removed_at, get_removed_elsewhere, changed_at, changed_elsewhere}
use Rattle.zk_replay_laws.proofs.Changes.{Change, Makes, Deletes, Writes, Guards, applied, zxid_of, Created, Deleted, There, IsTaken}

pub apart : (path above : List ℕ) → length above < length path → path ≢ above
apart path above less e = let same = ap length e in absurd (omega (arith, same, less))

pub apart_back : (path above : List ℕ) → length above < length path → above ≢ path
apart_back path above less e = let same = ap length e in absurd (omega (arith, same, less))

abbrev pub IsClosedMap : NodeMap → Type 0
IsClosedMap m = (path above : List ℕ) → There m path → parent_of path ≡ Some above → There m above

-- ---- a create

module _ (m : NodeMap) (zxid : ℤ) (path above : List ℕ) (node : Node) (count : ℤ) (is : Created m zxid path above node count) where
  abbrev made : NodeMap
  made = applied m (Makes zxid path above node count)

  pub made_at : get (applied m (Makes zxid path above node count)) path ≡ Some node
  made_at = changed_elsewhere (insert m path node) above (nodes.with_child zxid count) path (apart path above is.shorter) ∙ get_inserted m path node

  pub made_above : get (applied m (Makes zxid path above node count)) above ≡ Some (nodes.with_child zxid count is.parent_node)
  made_above = changed_at (insert m path node) above (nodes.with_child zxid count) is.parent_node (get_inserted_elsewhere m path node above (apart_back path above is.shorter) ∙ is.parent_there)

  pub made_elsewhere : (q : List ℕ) → q ≢ path → q ≢ above → get (applied m (Makes zxid path above node count)) q ≡ get m q
  made_elsewhere q not_path not_above = changed_elsewhere (insert m path node) above (nodes.with_child zxid count) q not_above ∙ get_inserted_elsewhere m path node q not_path

  pub made_there : (q : List ℕ) → There m q → There (applied m (Makes zxid path above node count)) q
  made_there q there =
      ⊎_elim
      (λ e. (node, ap (get made) e ∙ made_at))
      (λ other. ⊎_elim (λ e. (nodes.with_child zxid count is.parent_node, ap (get made) e ∙ made_above)) (λ else. (there.0, made_elsewhere q other else ∙ there.1)) (cases_path q above))
      (cases_path q path)

  pub was_there : (q : List ℕ) → q ≢ path → There (applied m (Makes zxid path above node count)) q → There m q
  was_there q other there = ⊎_elim (λ e. (is.parent_node, ap (get m) e ∙ is.parent_there)) (λ else. (there.0, sym (made_elsewhere q other else) ∙ there.1)) (cases_path q above)

  pub made_closed : IsClosedMap m → IsClosedMap (applied m (Makes zxid path above node count))
  made_closed closed q b there parent =
      ⊎_elim
      (λ e. (nodes.with_child zxid count is.parent_node, ap (get made) (some_inj (sym parent ∙ ap parent_of e ∙ is.parent)) ∙ made_above))
      (λ other. made_there b (closed q b (was_there q other there) parent))
      (cases_path q path)

-- ---- a delete

module _ (m : NodeMap) (zxid : ℤ) (path above : List ℕ) (is : Deleted m path above) (closed : IsClosedMap m) where
  abbrev gone : NodeMap
  gone = applied m (Deletes zxid path above)

  pub gone_at : get (applied m (Deletes zxid path above)) path ≡ None
  gone_at = changed_elsewhere (remove m path) above (nodes.without_child zxid) path (apart path above is.shorter) ∙ get_removed_at m path

  pub parent_of_gone : There m above
  parent_of_gone = closed path above (is.node, is.there) is.parent

  pub gone_above : get (applied m (Deletes zxid path above)) above ≡ Some (nodes.without_child zxid parent_of_gone.0)
  gone_above = changed_at (remove m path) above (nodes.without_child zxid) parent_of_gone.0 (get_removed_elsewhere m path above (apart_back path above is.shorter) ∙ parent_of_gone.1)

  pub gone_elsewhere : (q : List ℕ) → q ≢ path → q ≢ above → get (applied m (Deletes zxid path above)) q ≡ get m q
  gone_elsewhere q not_path not_above = changed_elsewhere (remove m path) above (nodes.without_child zxid) q not_above ∙ get_removed_elsewhere m path q not_path

  pub still_there : (q : List ℕ) → q ≢ path → There m q → There (applied m (Deletes zxid path above)) q
  still_there q other there = ⊎_elim (λ e. (nodes.without_child zxid parent_of_gone.0, ap (get gone) e ∙ gone_above)) (λ else. (there.0, gone_elsewhere q other else ∙ there.1)) (cases_path q above)

  pub was_before : (q : List ℕ) → q ≢ path → There (applied m (Deletes zxid path above)) q → There m q
  was_before q other there = ⊎_elim (λ e. (parent_of_gone.0, ap (get m) e ∙ parent_of_gone.1)) (λ else. (there.0, sym (gone_elsewhere q other else) ∙ there.1)) (cases_path q above)

  pub gone_closed : IsClosedMap (applied m (Deletes zxid path above))
  gone_closed q b there parent =
      ⊎_elim
      (λ e. absurd (none_some (sym gone_at ∙ ap (get gone) (sym e) ∙ there.1)))
      (λ other.
      let before = was_before q other there in
      still_there b (λ e. none_some (sym (is.childless q (parent ∙ ap Some e)) ∙ before.1)) (closed q b before parent))
      (cases_path q path)

-- ---- a change of one node

module _ (m : NodeMap) (path : List ℕ) (change : Node → Node) (is : There m path) where
  pub changed_there : (q : List ℕ) → There m q → There (changed m path change) q
  changed_there q there = ⊎_elim (λ e. (change is.0, ap (get (changed m path change)) e ∙ changed_at m path change is.0 is.1)) (λ other. (there.0, changed_elsewhere m path change q other ∙ there.1)) (cases_path q path)

  pub unchanged_there : (q : List ℕ) → There (changed m path change) q → There m q
  unchanged_there q there = ⊎_elim (λ e. (is.0, ap (get m) e ∙ is.1)) (λ other. (there.0, sym (changed_elsewhere m path change q other) ∙ there.1)) (cases_path q path)

  pub changed_closed : IsClosedMap m → IsClosedMap (changed m path change)
  changed_closed closed q b there parent = changed_there b (closed q b (unchanged_there q there) parent)

pub closed_after : (m : NodeMap) (c : Change) → IsTaken m c → IsClosedMap m → IsClosedMap (applied m c)
closed_after m (Makes zxid path above node count) is closed = made_closed m zxid path above node count is closed
closed_after m (Deletes zxid path above) is closed = gone_closed m zxid path above is closed
closed_after m (Writes txn path content version) is closed = changed_closed m path (nodes.written txn content version) is closed
closed_after m (Guards zxid path acl version) is closed = changed_closed m path (nodes.guarded acl version) is closed

-- ---- the zxid of a node's children

pub record OldPzxid (m : NodeMap) (q : List ℕ) (zxid : ℤ) : Type 0 where
  pub node : Node
  pub there : get m q ≡ Some node
  pub same : zxid ≡ node.pzxid

pub pzxid_after : (m : NodeMap) (c : Change) → IsTaken m c → IsClosedMap m → (q : List ℕ) (n : Node) → get (applied m c) q ≡ Some n → (n.pzxid ≡ zxid_of c) ⊎ OldPzxid m q n.pzxid
pzxid_after m (Makes zxid path above node count) is closed q n there =
    ⊎_elim
    (λ e. inl (ap (λ x. x.pzxid) (some_inj (sym there ∙ ap (get (applied m (Makes zxid path above node count))) e ∙ made_at m zxid path above node count is)) ∙ is.new))
    (λ other. ⊎_elim
    (λ e. inl (ap (λ x. x.pzxid) (some_inj (sym there ∙ ap (get (applied m (Makes zxid path above node count))) e ∙ made_above m zxid path above node count is))))
    (λ else. inr (record { node = n; there = sym (made_elsewhere m zxid path above node count is q other else) ∙ there; same = refl }))
    (cases_path q above))
    (cases_path q path)
pzxid_after m (Deletes zxid path above) is closed q n there =
    ⊎_elim
    (λ e. absurd (none_some (sym (gone_at m zxid path above is closed) ∙ ap (get (applied m (Deletes zxid path above))) (sym e) ∙ there)))
    (λ other. ⊎_elim
    (λ e. inl (ap (λ x. x.pzxid) (some_inj (sym there ∙ ap (get (applied m (Deletes zxid path above))) e ∙ gone_above m zxid path above is closed))))
    (λ else. inr (record { node = n; there = sym (gone_elsewhere m zxid path above is closed q other else) ∙ there; same = refl }))
    (cases_path q above))
    (cases_path q path)
pzxid_after m (Writes txn path content version) is closed q n there =
    ⊎_elim
    (λ e. inr (record { node = is.0; there = ap (get m) e ∙ is.1; same = ap (λ x. x.pzxid) (some_inj (sym there ∙ ap (get (applied m (Writes txn path content version))) e ∙ changed_at m path (nodes.written txn content version) is.0 is.1)) }))
    (λ other. inr (record { node = n; there = sym (changed_elsewhere m path (nodes.written txn content version) q other) ∙ there; same = refl }))
    (cases_path q path)
pzxid_after m (Guards zxid path acl version) is closed q n there =
    ⊎_elim
    (λ e. inr (record { node = is.0; there = ap (get m) e ∙ is.1; same = ap (λ x. x.pzxid) (some_inj (sym there ∙ ap (get (applied m (Guards zxid path acl version))) e ∙ changed_at m path (nodes.guarded acl version) is.0 is.1)) }))
    (λ other. inr (record { node = n; there = sym (changed_elsewhere m path (nodes.guarded acl version) q other) ∙ there; same = refl }))
    (cases_path q path)
