-- The nodes of a server before any transaction, put one below another.
use Rattle.std.proofs.Common.{◌≡◌, List, ℕ, false, pos, Some, codes, is_some, unwrap_or, sym, ap, ◌∙◌}
use Rattle.std.proofs.lemmas.Cmp.{nat_list_cmp_total}
use Rattle.std.specs.FinMap as finite
use Rattle.std.specs.Option.{option_map}
use Rattle.zk_path.specs.Paths.{parent_of}
use Rattle.zk_table.specs.declared.node.Node.{Node}
use Rattle.zk_table.specs.Nodes.{first_node}
use Rattle.zk_table.specs.States.{NodeMap, path_cmp}
use Rattle.zk_tree.specs.Trees.{owner_at}
use Rattle.zk_tree.proofs.Kept.{contains_key-insert, get-insert_itself}

abbrev pub first_nodes : NodeMap
first_nodes = finite.insert finite.empty (codes "/") first_node

abbrev pub second_nodes : NodeMap
second_nodes = finite.insert first_nodes (codes "/zookeeper") first_node

-- a map with one more node
pub put_into : (old before new : NodeMap) (path text : List ℕ) (node : Node) → new ≡ finite.insert old path node → old ≡ before → path ≡ text → node ≡ first_node → new ≡ finite.insert before text first_node
put_into old before new path text node is same path_is node_is = is ∙ ap (λ m. finite.insert m path node) same ∙ ap (λ k. finite.insert before k node) path_is ∙ ap (finite.insert before text) node_is

pub zookeeper_free : finite.contains_key first_nodes (codes "/zookeeper") ≡ false
zookeeper_free = contains_key-insert nat_list_cmp_total finite.empty (codes "/") first_node (codes "/zookeeper") ∙ ap is_some (finite.get-empty path_cmp (codes "/zookeeper"))

pub quota_free : finite.contains_key second_nodes (codes "/zookeeper/quota") ≡ false
quota_free =
    contains_key-insert nat_list_cmp_total first_nodes (codes "/zookeeper") first_node (codes "/zookeeper/quota")
    ∙ contains_key-insert nat_list_cmp_total finite.empty (codes "/") first_node (codes "/zookeeper/quota")
    ∙ ap is_some (finite.get-empty path_cmp (codes "/zookeeper/quota"))

zookeeper_owner : owner_at second_nodes (codes "/zookeeper") ≡ Some (pos 0)
zookeeper_owner = ap (option_map (λ n. n.owner)) (get-insert_itself nat_list_cmp_total first_nodes (codes "/zookeeper") first_node)

pub above_quota : (above : List ℕ) → parent_of (codes "/zookeeper/quota") ≡ Some above → owner_at second_nodes above ≡ Some (pos 0)
above_quota above e = ap (owner_at second_nodes) (sym (ap (λ o. unwrap_or o above) e)) ∙ zookeeper_owner
