use Rattle.std.proofs.Common.{Option, OnOk, w64, rules, sym, subst}
use Rattle.std.proofs.lemmas.Int.{to_z-of_z}
use Rattle.std.proofs.lemmas.Result.{on_ok_weaker}
use Rattle.std.specs.String.{string_bytes}
use Rattle.zk_tree_changes.proofs.Lining.{stamp_text}
use Rattle.zk_tree_changes.specs.Texts.{AppendsStamp}
use Rattle.zk_tree_changes.specs.declared.stamps.Stamp.{Stamp}
use Rattle.zk_tree_changes.proofs.change.push_stamp.Goals as goal

pub returns : goal.returns
returns c =
    let stamp = c.in-Some.stamp in
    let new = string_bytes c.push_space-2.new.text in
    subst (λ (s : Option Stamp). OnOk c.push_space-2.result (AppendsStamp s (string_bytes c.args.text.now) new)) (sym c.in-Some.is)
    (on_ok_weaker c.push_space-2.result
    (stamp_text stamp _ _ (string_bytes c.args.text.now) (string_bytes c.push_space.new.text) (string_bytes c.push_time.new.text) (string_bytes c.push_next_id.new.text) new
    (to_z-of_z w64 stamp.time (search rules)) (to_z-of_z w64 stamp.zxid (search rules)) c.in_ok-push_space.ensures c.in_ok-push_time.ensures c.in_ok-push_next_id.ensures)
    c.push_space-2.ensures)
