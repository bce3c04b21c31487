-- The nodes of a tree, by its borrowed entries.
use Rattle.std.proofs.Common.{◌≡◌, ℕ, List, [], ◌∷◌, length, map, refl, sym, ap, ◌∙◌}
use Rattle.std.specs.FinMap.{entries}
use Rattle.zk_tree_changes.specs.Scripts.{node_of}
use Rattle.zk_table.specs.States.{NodeMap, children_of}
use Rattle.zk_tree.specs.Entries.{entries_of, lent}
use Rattle.zk_tree.specs.declared.entry.Entry.{Entry}
use Rattle.zk_table.specs.declared.node.Node.{Node}

abbrev first_of : List ℕ × (Node × ℕ) → List ℕ × Node
first_of l = (l.0, l.1.0)

of_lent : (es : List Entry) → map first_of (map lent es) ≡ map node_of es
of_lent [] = refl
of_lent (e ∷ es) = ap (λ l. node_of e ∷ l) (of_lent es)

of_nodes : (nodes : NodeMap) (es : List (List ℕ × Node)) → map first_of (map (λ e. (e.0, (e.1, length (children_of nodes e.0)))) es) ≡ es
of_nodes nodes [] = refl
of_nodes nodes (e ∷ es) = ap (λ l. e ∷ l) (of_nodes nodes es)

pub nodes_borrowed : (nodes : NodeMap) (es : List Entry) → map lent es ≡ entries_of nodes → map node_of es ≡ entries nodes
nodes_borrowed nodes es h = sym (of_lent es) ∙ ap (map first_of) h ∙ of_nodes nodes (entries nodes)
