use Rattle.std.proofs.Common.{◌≡◌, ℤ, w64, rules, subst}
use Rattle.std.proofs.lemmas.Int.{to_z-of_z}
use Rattle.std.proofs.lemmas.Result.{on_ok_weaker}
use Rattle.zk_json.specs.Times.{IsTimeText}
use Rattle.zk_json.proofs.incidents.push_history_line.Goals as goal

pub returns : goal.returns
returns c =
    let txn = c.args.txn.now in
    let time = c.as_str.result.now in
    let shown : IsTimeText txn.time time = subst (λ (t : ℤ). IsTimeText t time) (to_z-of_z w64 txn.time (search rules)) (search rules) in
    on_ok_weaker c.push_timed_history.result (λ a. (a.0, (time, shown, a.1), a.2)) c.push_timed_history.ensures
