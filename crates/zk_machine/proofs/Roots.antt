-- The preimage of the root.
use Rattle.std.proofs.Common.{◌≡◌, pos, Some, sym, ap, ◌∙◌, codes}
use Rattle.std.specs.FinMap as finite
use Rattle.std.specs.Option.{option_map}
use Rattle.zk_table.specs.declared.node.Node.{Node}
use Rattle.zk_table.specs.States.{NodeMap}
use Rattle.zk_tree.specs.Trees.{owner_at}
use Rattle.zk_machine.specs.Undoing.{PreimageMap, KeepsRoot, nodes_before}
use Rattle.zk_machine.proofs.PreimageLaws.{was, get-all_put_back}

-- preimages of nodes whose root has no owner
pub keeps_root : (t : PreimageMap) (n m : NodeMap) → nodes_before t n ≡ m → owner_at m (codes "/") ≡ Some (pos 0) → KeepsRoot t
keeps_root t n m back free = λ before note.
    ap (option_map (λ (node : Node). node.owner)) (sym (ap (λ k. finite.get k (codes "/")) (sym back) ∙ get-all_put_back (finite.entries t) n (codes "/") ∙ ap (λ x. was x (finite.get n (codes "/"))) (sym (finite.get-entries t (codes "/")) ∙ note)))
    ∙ free
