use Rattle.std.proofs.Common.{refl, subst}
use Rattle.std.specs.String.{string_bytes}
use Rattle.zk_json_files.proofs.Lines.{unread_all, unread_more}
use Rattle.zk_json_files.specs.Unread.{AppendsUnreadBy, log_instead}
use Rattle.zk_json_files.proofs.unread_files.push_unread_logs.Goals as goal

pub loop-name-init : goal.loop-name-init
loop-name-init c = λ more lines. (more, lines, refl)

pub loop-name-preserved : goal.loop-name-preserved
loop-name-preserved c =
    let text = string_bytes c.loop-name.text in
    let text' = string_bytes c.push_unread_log.new.text in
    let name = c.name-item.result in
    unread_more log_instead c.args.names.now c.loop-name.name-index name (log_instead (string_bytes name)) (string_bytes c.args.text.now) text text' c.loop-name-test.true c.name-item.is c.loop-name.invariant refl
    (subst (λ n. AppendsUnreadBy n (log_instead n) text text') c.as_str.ensures.value c.in_ok-push_unread_log.ensures)

pub returns : goal.returns
returns c = unread_all log_instead c.args.names.now c.loop-name.name-index (string_bytes c.args.text.now) (string_bytes c.loop-name.text) c.loop-name-test.false c.loop-name.invariant
