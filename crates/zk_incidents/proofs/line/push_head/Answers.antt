use Rattle.std.proofs.Common.{w32, w64, rules}
use Rattle.std.proofs.lemmas.Int.{to_z-of_z}
use Rattle.std.proofs.lemmas.Result.{on_ok_weaker}
use Rattle.std.specs.String.{string_bytes}
use Rattle.zk_incidents.proofs.Lined.{headed}
use Rattle.zk_incidents.proofs.line.push_head.Goals as goal

pub returns : goal.returns
returns c =
    let txn = c.args.txn.now in
    on_ok_weaker c.push_expiry.result
    (headed txn c.args.form.now (string_bytes c.args.text.now) (string_bytes c.push_next_id.new.text) (string_bytes c.push_word.new.text) (string_bytes c.push_next_id-2.new.text) (string_bytes c.push_expiry.new.text) _ _ _
    (to_z-of_z w64 txn.zxid (search rules)) (to_z-of_z w64 txn.session (search rules)) (to_z-of_z w32 txn.cxid (search rules))
    c.in_ok-push_next_id.ensures c.in_ok-push_word.ensures c.in_ok-push_next_id-2.ensures)
    c.push_expiry.ensures
