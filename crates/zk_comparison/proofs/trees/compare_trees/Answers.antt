use Rattle.std.proofs.Common.{◌≡◌, length, rules}
use Rattle.zk_comparison.proofs.Seen.{all_said}
use Rattle.zk_comparison.specs.declared.finding.Finding.TheVariants.{Tree}
use Rattle.zk_comparison.proofs.trees.compare_trees.Goals as goal

pub returns : goal.returns
returns c =
    let count : c.len.result ≡ length c.in_ok-paths.paths.items = search rules in
    let tree : c.tree_finding.result ≡ Tree c.args.zxid c.len.result = search rules in
    all_said c.args.zxid c.args.first.now c.args.second.now c.in_ok-paths.paths.items c.as_slice.result.now c.most_of.result.now c.len.result c.tree_finding.result c.new-findings.result.items c.push_nodes.new.findings.items c.push.new.self.items
    c.in_ok-paths.ensures c.as_slice.ensures.value c.most_of.ensures count (search rules) c.in_ok-push_nodes.ensures tree c.in_ok-push.ensures.items
