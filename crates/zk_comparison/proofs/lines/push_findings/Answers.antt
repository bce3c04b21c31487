use Rattle.std.proofs.Common.{◌≡◌, ◌<◌, length, get_or, rules}
use Rattle.std.specs.String.{string_bytes}
use Rattle.zk_comparison.proofs.Written.{next_appended}
use Rattle.zk_comparison.specs.Lines.{IsFindingText}
use Rattle.zk_comparison.proofs.lines.push_findings.Goals as goal

pub loop-finding-preserved : goal.loop-finding-preserved
loop-finding-preserved c =
    let all = c.args.findings.now in
    let at = c.loop-finding.finding-index in
    let lt : at < length all = search rules in
    let is : c.finding-item.result ≡ get_or all at c.finding-item.result = search rules in
    next_appended IsFindingText all at c.finding-item.result (string_bytes c.args.text.now) (string_bytes c.loop-finding.text) (string_bytes c.push_finding.new.text) lt is c.loop-finding.invariant c.in_ok-push_finding.ensures
