use Rattle.std.proofs.Common.{◌≡◌, ◌<◌, length, get_or, rules}
use Rattle.std.specs.String.{string_bytes}
use Rattle.zk_json_commands.proofs.WrittenReports.{next_marked}
use Rattle.zk_json_commands.proofs.report.push_marks.Goals as goal

pub loop-mark-preserved : goal.loop-mark-preserved
loop-mark-preserved c =
    let all = c.args.marks.now in
    let at = c.loop-mark.mark-index in
    let lt : at < length all = search rules in
    let is : c.mark-item.result ≡ get_or all at c.mark-item.result = search rules in
    next_marked all at c.mark-item.result (string_bytes c.args.text.now) (string_bytes c.loop-mark.text) (string_bytes c.push_mark.new.text) lt is c.loop-mark.invariant c.in_ok-push_mark.ensures
