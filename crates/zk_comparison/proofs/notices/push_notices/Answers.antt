use Rattle.std.proofs.Common.{◌≡◌, ◌<◌, length, get_or, rules}
use Rattle.std.specs.String.{string_bytes}
use Rattle.zk_comparison.proofs.Written.{next_appended}
use Rattle.zk_comparison.specs.Notices.{IsNotice}
use Rattle.zk_comparison.proofs.notices.push_notices.Goals as goal

pub loop-mark-preserved : goal.loop-mark-preserved
loop-mark-preserved c =
    let all = c.args.marks.now in
    let at = c.loop-mark.mark-index in
    let lt : at < length all = search rules in
    let is : c.mark-item.result ≡ get_or all at c.mark-item.result = search rules in
    next_appended (IsNotice c.args.directory) all at c.mark-item.result (string_bytes c.args.text.now) (string_bytes c.loop-mark.text) (string_bytes c.push_notice.new.text) lt is c.loop-mark.invariant c.in_ok-push_notice.ensures
