use Rattle.std.proofs.Common.{OnOk, subst}
use Rattle.std.specs.String.{string_bytes}
use Rattle.zk_json_files.specs.Unread.{AppendsUnreadBy}
use Rattle.zk_json_files.proofs.unread_files.push_unread_snapshot.Goals as goal

pub returns : goal.returns
returns c = subst (λ r. OnOk c.push_unread_by.result (AppendsUnreadBy c.args.name.now r (string_bytes c.args.text.now) (string_bytes c.push_unread_by.new.text))) c.in_ok-read.ensures c.push_unread_by.ensures
