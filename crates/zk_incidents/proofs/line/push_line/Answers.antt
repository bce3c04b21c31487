use Rattle.std.proofs.Common.{◌≡◌, ◌==◌, ℤ, w64, false, length, rules, subst}
use Rattle.std.proofs.lemmas.Int.{to_z-of_z}
use Rattle.std.proofs.lemmas.Result.{on_ok_weaker}
use Rattle.std.specs.String.{string_bytes}
use Rattle.zk_json.specs.Times.{AppendsTime}
use Rattle.zk_incidents.proofs.Lined.{lined}
use Rattle.zk_incidents.proofs.line.push_line.Goals as goal

pub returns : goal.returns
returns c =
    let some : (length c.args.paths.now == 0) ≡ false = search rules in
    let time = subst (λ (t : ℤ). AppendsTime (string_bytes c.args.text.now) t (string_bytes c.push_time.new.text)) (to_z-of_z w64 c.args.newer.now.txn.time (search rules)) c.in_ok-push_time.ensures in
    on_ok_weaker c.push_entry.result (lined c.args.below c.args.paths.now c.args.newer.now (string_bytes c.args.text.now) (string_bytes c.push_time.new.text) (string_bytes c.push_entry.new.text) some time) c.push_entry.ensures
