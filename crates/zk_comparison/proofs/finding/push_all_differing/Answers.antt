use Rattle.std.proofs.Common.{◌≡◌, length, map, rules}
use Rattle.zk_comparison.specs.Comparisons.{of_kind, shown}
use Rattle.zk_comparison.specs.declared.judgement.Kind.TheVariants as kinds
use Rattle.zk_comparison.proofs.Listed.{all_differing}
use Rattle.zk_comparison.proofs.finding.push_all_differing.Goals as goal

pub returns : goal.returns
returns c =
    let count : c.len.result ≡ length c.in_ok-pairs.pairs.items = search rules in
    all_differing 1000 c.args.findings.now.items c.push_differing.new.findings.items c.push.new.self.items c.in_ok-pairs.pairs.items c.as_slice.result.now c.most_of.result.now c.len.result (of_kind kinds.Differing (map shown c.args.judged.now))
    c.in_ok-pairs.ensures c.as_slice.ensures.value c.most_of.ensures count c.in_ok-push_differing.ensures c.in_ok-push.ensures.items
