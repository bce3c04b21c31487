use Rattle.std.proofs.Common.{◌≡◌, ◌<◌, ◌≤◌, length, get_or, rules}
use Rattle.std.specs.String.{string_bytes}
use Rattle.zk_comparison.specs.Sources.{named_by}
use Rattle.zk_comparison.proofs.AllReported.{all_reports, next_report}
use Rattle.zk_comparison.proofs.several.reports_of.Goals as goal

pub loop-second-preserved : goal.loop-second-preserved
loop-second-preserved g c =
    let named = named_by g.S.Folder.names_in g.S.Folder.bytes_in g.L.Folder.names_in g.L.Folder.bytes_in in
    let all = c.args.others.now in
    let at = c.loop-second.second-index in
    let lt : at < length all = search rules in
    let is : c.second-item.result ≡ get_or all at c.second-item.result = search rules in
    next_report named c.args.form (named c.args.first.now) all at c.second-item.result (string_bytes c.loop-second.all.text) (string_bytes c.loop-second.all.notices)
    (string_bytes c.in_ok-report.report.text) (string_bytes c.in_ok-report.report.notices) (string_bytes c.add_report.new.all.text) (string_bytes c.add_report.new.all.notices)
    c.loop-second.all.differ c.in_ok-report.report.differ c.add_report.new.all.differ lt is c.loop-second.invariant c.in_ok-report.ensures c.in_ok-add_report.ensures.text c.in_ok-add_report.ensures.notices c.in_ok-add_report.ensures.differ
