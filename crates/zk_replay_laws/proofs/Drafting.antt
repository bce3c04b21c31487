-- The draft of a snapshot without a fault is a tree.
use Rattle.std.proofs.Common.{◌≡◌, ◌≢◌, ℕ, List, [], ◌∷◌, length, true, false, is_some, Option, Some, None, refl, sym, ap, subst, ◌∙◌, ⊎_elim, arith}
use Rattle.std.proofs.lemmas.Bool.{cond-true, cond-false, cases_Bool}
use Rattle.std.specs.FinMap.{get, insert, empty, contains_key, get-empty}
use Rattle.std.specs.Option.{option_or}
use Rattle.zk_acl.specs.declared.acl.Acl.{Acl}
use Rattle.zk_path.specs.Paths.{parent_of, fault_of}
use Rattle.zk_table.specs.States.{path_cmp}
use Rattle.zk_snapshot.specs.declared.snapshot.Access.{Access}
use Rattle.zk_snapshot.specs.declared.snapshot.Contents.{Contents}
use Rattle.zk_snapshot.specs.declared.snapshot.Stored.{Stored}
use Rattle.zk_replay.specs.declared.draft_node.DraftNode.{DraftNode}
use Rattle.zk_replay.specs.declared.draft.Draft.{Draft}
use Rattle.zk_replay.specs.declared.fault.BaseFault.{BaseFault}
use Rattle.zk_replay.specs.declared.fault.BaseFault.TheVariants as faults
use Rattle.zk_replay.specs.Drafts as drafts
use Rattle.zk_replay.specs.Drafts.{DraftMap, as_parent}
use Rattle.zk_replay.specs.Bases.{IsDraftOf, acl_of, draft_of, draft_found, drafted, drafted_fault, parent_fault, parent_marked, snapshot_fault, stored_fault, with_stored}
use Rattle.zk_replay_laws.specs.Windows.{ArePaths}
use Rattle.zk_replay_laws.proofs.Paths.{some_inj, none_some}
use Rattle.zk_replay_laws.proofs.Gets.{cases_path, get_inserted, get_inserted_elsewhere, draft_changed_at, draft_changed_elsewhere}
use Rattle.zk_replay_laws.proofs.Removals.{DraftThere, IsMarked, IsDraftTree}
use Rattle.zk_replay_laws.proofs.Replays.{turned_tree}
use Rattle.zk_replay_laws.proofs.Transactions.{longer_than_parent}

found_path : (s : Stored) (o : Option (List Acl)) → (draft_found s o).path ≡ s.path
found_path s None = refl
found_path s (Some acl) = refl

-- ---- one node more

module _ (d : DraftMap) (tree : IsDraftTree d) (path : List ℕ) (node : DraftNode) (good : fault_of path ≡ None) (at : node.path ≡ path) (absent : get d path ≡ None) (parent : (above : List ℕ) → parent_of path ≡ Some above → IsMarked d above) where
  abbrev more : DraftMap
  more = insert d path node

  marked_still : (q : List ℕ) → IsMarked d q → IsMarked more q
  marked_still q marked =
      ⊎_elim
      (λ e. absurd (none_some (sym absent ∙ ap (get d) (sym e) ∙ marked.1.0)))
      (λ other. (marked.0, (get_inserted_elsewhere d path node q other ∙ marked.1.0, marked.1.1)))
      (cases_path q path)

  was_there : (q : List ℕ) → q ≢ path → DraftThere more q → DraftThere d q
  was_there q other there = (there.0, sym (get_inserted_elsewhere d path node q other) ∙ there.1)

  inserted_tree : IsDraftTree (insert d path node)
  inserted_tree = record {
    keyed = λ q x there. ⊎_elim
        (λ e. ap (λ y. y.path) (some_inj (sym there ∙ ap (get more) e ∙ get_inserted d path node)) ∙ at ∙ sym e)
        (λ other. tree.keyed q x (sym (get_inserted_elsewhere d path node q other) ∙ there))
        (cases_path q path);
    closed = λ q above there is. ⊎_elim
        (λ e. marked_still above (parent above (ap parent_of (sym e) ∙ is)))
        (λ other. marked_still above (tree.closed q above (was_there q other there) is))
        (cases_path q path);
    shorter = λ q above there is. ⊎_elim
        (λ e. let same = ap length e in let less = longer_than_parent path above good (ap parent_of (sym e) ∙ is) in omega (arith, same, less))
        (λ other. tree.shorter q above (was_there q other there) is)
        (cases_path q path);
  }

-- ---- a stored node

none_if : (o : Option DraftNode) → is_some o ≡ false → o ≡ None
none_if None e = refl
none_if (Some x) e = absurd (cc)

there_if : (o : Option DraftNode) → is_some o ≡ true → (x : DraftNode) × (o ≡ Some x)
there_if None e = absurd (cc)
there_if (Some x) e = (x, refl)

stored_tree : (accesses : List Access) (d : DraftMap) (s : Stored) → fault_of s.path ≡ None → stored_fault d s ≡ None → IsDraftTree d → IsDraftTree (with_stored accesses d s)
stored_tree accesses d s good well tree = with_parent (parent_of s.path) refl
  where
    absent_key : contains_key d s.path ≡ false
    absent_key = ⊎_elim (λ has. absurd (none_some (sym well ∙ cond-true (contains_key d s.path) (Some faults.Tree) _ has))) (λ none. none) (cases_Bool (contains_key d s.path))

    parent_well : parent_fault d (parent_of s.path) ≡ None
    parent_well = sym (cond-false (contains_key d s.path) (Some faults.Tree) _ absent_key) ∙ well

    absent : get d s.path ≡ None
    absent = none_if (get d s.path) absent_key

    with_parent : (o : Option (List ℕ)) → parent_of s.path ≡ o → IsDraftTree (with_stored accesses d s)
    with_parent None none =
        subst (λ o. IsDraftTree (insert (parent_marked d o) s.path (draft_of accesses s))) (sym none)
        (inserted_tree d tree s.path (draft_of accesses s) good (found_path s (acl_of accesses s.kept.access)) absent (λ above is. absurd (none_some (sym none ∙ is))))
    with_parent (Some above) is =
        let has : contains_key d above ≡ true = ⊎_elim (λ h. h) (λ none. absurd (none_some (sym parent_well ∙ ap (parent_fault d) is ∙ cond-false (contains_key d above) None (Some faults.Tree) none))) (cases_Bool (contains_key d above)) in
        let there = there_if (get d above) has in
        subst (λ o. IsDraftTree (insert (parent_marked d o) s.path (draft_of accesses s))) (sym is)
        (inserted_tree (drafts.changed d above as_parent) (turned_tree d above as_parent (λ x. refl) (λ x h. refl) tree) s.path (draft_of accesses s) good (found_path s (acl_of accesses s.kept.access))
        (draft_changed_elsewhere d above as_parent s.path (λ e. none_some (sym absent ∙ ap (get d) e ∙ there.1)) ∙ absent)
        (λ b parent. (as_parent there.0, (ap (get (drafts.changed d above as_parent)) (some_inj (sym parent ∙ is)) ∙ draft_changed_at d above as_parent there.0 there.1, refl))))

-- ---- all stored nodes

no_fault_first : (a b : Option BaseFault) → option_or a b ≡ None → (a ≡ None) × (b ≡ None)
no_fault_first None b e = (refl, e)
no_fault_first (Some f) b e = absurd (cc)

faulted : (accesses : List Access) (d : DraftMap) (s : Stored) (stored : List Stored) → drafted_fault accesses d (s ∷ stored) ≡ option_or (stored_fault d s) (drafted_fault accesses (with_stored accesses d s) stored)
unfolding drafted_fault
faulted accesses d s stored = refl

drafted_first : (accesses : List Access) (d : DraftMap) (s : Stored) (stored : List Stored) → drafted accesses d (s ∷ stored) ≡ drafted accesses (with_stored accesses d s) stored
unfolding drafted
drafted_first accesses d s stored = refl

drafted_none : (accesses : List Access) (d : DraftMap) → drafted accesses d [] ≡ d
unfolding drafted
drafted_none accesses d = refl

drafted_tree : (accesses : List Access) (d : DraftMap) (stored : List Stored) → ArePaths stored → drafted_fault accesses d stored ≡ None → IsDraftTree d → IsDraftTree (drafted accesses d stored)
drafted_tree accesses d [] good well tree = subst IsDraftTree (sym (drafted_none accesses d)) tree
drafted_tree accesses d (s ∷ stored) good well tree =
    let parts = no_fault_first (stored_fault d s) _ (sym (faulted accesses d s stored) ∙ well) in
    subst IsDraftTree (sym (drafted_first accesses d s stored)) (drafted_tree accesses (with_stored accesses d s) stored good.1 parts.1 (stored_tree accesses d s good.0 parts.0 tree))

empty_tree : IsDraftTree empty
empty_tree = record {
  keyed = λ q x there. absurd (none_some (sym (get-empty path_cmp q) ∙ there));
  closed = λ q above there parent. absurd (none_some (sym (get-empty path_cmp q) ∙ there.1));
  shorter = λ q above there parent. absurd (none_some (sym (get-empty path_cmp q) ∙ there.1));
}

pub draft_tree : (contents : Contents) (draft : Draft) → ArePaths contents.nodes → snapshot_fault contents ≡ None → IsDraftOf contents draft → IsDraftTree draft.nodes
draft_tree contents draft good well is = subst IsDraftTree (sym is.nodes) (drafted_tree contents.accesses empty contents.nodes good well empty_tree)
