-- The last transactions of paths, and the owners of a tree's nodes.
use Rattle.std.proofs.Common.{◌≡◌, ℕ, ℤ, List, [], ◌∷◌, ◌++◌, length, map, refl, sym, ap, ◌∙◌}
use Rattle.std.specs.BTreeMap.{insert_entry}
use Rattle.std.specs.FinMap.{entries}
use Rattle.zk_tree_changes.specs.Changes.{Stamped, stamped}
use Rattle.zk_tree_changes.specs.declared.stamps.Stamp.{Stamp}
use Rattle.zk_table.specs.States.{NodeMap, children_of, path_cmp}
use Rattle.zk_tree.specs.Entries.{entries_of, lent}
use Rattle.zk_tree.specs.declared.entry.Entry.{Entry}
use Rattle.zk_table.specs.declared.node.Node.{Node}

pub stamped_more : (stamps : Stamped) (stamp : Stamp) (front more : List (List ℕ)) → stamped stamps stamp (front ++ more) ≡ stamped (stamped stamps stamp front) stamp more
stamped_more stamps stamp [] more = refl
stamped_more stamps stamp (path ∷ front) more = stamped_more (insert_entry path_cmp stamps path stamp) stamp front more

abbrev owner_of : List ℕ × (Node × ℕ) → List ℕ × ℤ
owner_of l = (l.0, l.1.0.owner)

abbrev pub entry_owner : Entry → List ℕ × ℤ
entry_owner entry = (entry.path.now, entry.node.now.owner)

abbrev pub node_owner : List ℕ × Node → List ℕ × ℤ
node_owner entry = (entry.0, entry.1.owner)

of_lent : (es : List Entry) → map owner_of (map lent es) ≡ map entry_owner es
of_lent [] = refl
of_lent (e ∷ es) = ap (λ l. entry_owner e ∷ l) (of_lent es)

of_nodes : (nodes : NodeMap) (es : List (List ℕ × Node)) → map owner_of (map (λ e. (e.0, (e.1, length (children_of nodes e.0)))) es) ≡ map node_owner es
of_nodes nodes [] = refl
of_nodes nodes (e ∷ es) = ap (λ l. node_owner e ∷ l) (of_nodes nodes es)

pub owners_lent : (nodes : NodeMap) (es : List Entry) → map lent es ≡ entries_of nodes → map entry_owner es ≡ map node_owner (entries nodes)
owners_lent nodes es h = sym (of_lent es) ∙ ap (map owner_of) h ∙ of_nodes nodes (entries nodes)
