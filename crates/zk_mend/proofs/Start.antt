-- The digest of the tree before any transaction.
use Rattle.std.proofs.Common.{◌≡◌, ℕ, pos, ◌+◌, ◌%◌, ◌^◌, ◌<◌, List, [], ◌∷◌, length, codes, refl, sym, ap, ◌∙◌, arith}
use Rattle.std.proofs.lemmas.Cmp.{nat_list_cmp_total}
use Rattle.std.specs.FinMap as finite
use Rattle.std.specs.FinMap.{entries, entries-insert, len-entries, len-empty, put}
use Rattle.zk_table.specs.declared.node.Node.{Node}
use Rattle.zk_table.specs.Nodes.{first_node}
use Rattle.zk_table.specs.States.{NodeMap, path_cmp, start_state}
use Rattle.zk_mend.specs.Digests.{node_digest, total, tree_digest}
use Rattle.zk_mend.specs.Following.{no_owners}

no_length : {X : Type 0} (xs : List X) → length xs ≡ 0 → xs ≡ []
no_length [] e = refl
no_length (x ∷ xs) e = absurd (omega arith)

no_nodes : NodeMap
no_nodes = finite.empty

none : entries (finite.empty {K = List ℕ} {X = Node} {R = path_cmp}) ≡ []
none = no_length _ (sym (len-entries _) ∙ len-empty path_cmp Node)

-- sorted by path
start_entries : entries start_state.nodes ≡ (codes "/", first_node) ∷ (codes "/zookeeper", first_node) ∷ (codes "/zookeeper/quota", first_node) ∷ []
start_entries =
    entries-insert nat_list_cmp_total _ (codes "/zookeeper/quota") first_node
    ∙ ap (put path_cmp (codes "/zookeeper/quota") first_node) (entries-insert nat_list_cmp_total _ (codes "/zookeeper") first_node
    ∙ ap (put path_cmp (codes "/zookeeper") first_node) (entries-insert nat_list_cmp_total _ (codes "/") first_node
    ∙ ap (put path_cmp (codes "/") first_node) none))

small : (a b c : ℕ) → a < 2 ^ 32 → b < 2 ^ 32 → c < 2 ^ 32 → a + b + c ≡ (a + (b + (c + 0))) % 2 ^ 64
small a b c la lb lc = omega arith

pub start_digest : (a b c : ℕ) → a < 2 ^ 32 → b < 2 ^ 32 → c < 2 ^ 32 → a ≡ node_digest (codes "/") first_node (pos 0) → b ≡ node_digest (codes "/zookeeper") first_node (pos 0) → c ≡ node_digest (codes "/zookeeper/quota") first_node (pos 0) → a + b + c ≡ tree_digest no_owners start_state.nodes
start_digest a b c la lb lc at_root at_zookeeper at_quota =
    small a b c la lb lc
    ∙ (λ i. (at_root i + (at_zookeeper i + (at_quota i + 0))) % 2 ^ 64)
    ∙ sym (ap (λ es. total (λ path node. node_digest path node node.owner) es % 2 ^ 64) start_entries)
