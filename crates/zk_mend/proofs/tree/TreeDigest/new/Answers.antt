use Rattle.std.proofs.Common.{codes, w64, to_z, of_z, arith, ap, ◌∙◌}
use Rattle.std.specs.FinMap as finite
use Rattle.zk_table.specs.States.{path_cmp}
use Rattle.zk_mend.specs.Digests.{node_digest}
use Rattle.zk_mend.proofs.Start.{start_digest}
use Rattle.zk_mend.proofs.tree.TreeDigest.new.Goals as goal

pub returns : goal.returns
returns c =
    let node = c.in_ok-node.node in
    record {
      sum =
          start_digest c.from-root.result c.from-zookeeper.result c.from-quota.result (omega (arith, c.from-root.ensures, c.node_digest.type_inv)) (omega (arith, c.from-zookeeper.ensures, c.node_digest-2.type_inv)) (omega (arith, c.from-quota.ensures, c.node_digest-3.type_inv))
          (c.from-root.ensures ∙ c.node_digest.ensures ∙ ap (λ n. node_digest (codes "/") n (to_z w64 (of_z w64 n.owner))) c.in_ok-node.ensures)
          (c.from-zookeeper.ensures ∙ c.node_digest-2.ensures ∙ ap (λ n. node_digest (codes "/zookeeper") n (to_z w64 (of_z w64 n.owner))) c.in_ok-node.ensures)
          (c.from-quota.ensures ∙ c.node_digest-3.ensures ∙ ap (λ n. node_digest (codes "/zookeeper/quota") n (to_z w64 (of_z w64 n.owner))) c.in_ok-node.ensures);
      owners_kept = λ q. ap (λ m. finite.get m q) c.new.ensures ∙ finite.get-empty path_cmp q;
    }
