use Rattle.std.proofs.Common.{◌≡◌, ℤ, w64, of_z, to_z, refl, rules, subst}
use Rattle.std.proofs.lemmas.Int.{to_z-of_z}
use Rattle.std.proofs.lemmas.Result.{on_ok_weaker}
use Rattle.json.specs.Json.{null}
use Rattle.zk_json.proofs.Tokens.{last_written}
use Rattle.zk_json.specs.Times.{IsTimeText}
use Rattle.zk_json.proofs.changes.push_last.Goals as goal

pub returns-in_ok-time-in-Some : goal.returns-in_ok-time-in-Some
returns-in_ok-time-in-Some c =
    let last = c.in-Some.last in
    let time = c.as_str.result.now in
    let shown : IsTimeText last.time time = subst (λ (t : ℤ). IsTimeText t time) (to_z-of_z w64 last.time (search rules)) (search rules) in
    rw c.in-Some.is
    (last_written c.push_timed.result last (to_z w64 (of_z w64 last.zxid)) time c.args.json.now.writer.tokens c.push_timed.new.json.writer.tokens (to_z-of_z w64 last.zxid (search rules)) shown c.push_timed.ensures)

pub returns-in-None : goal.returns-in-None
returns-in-None c = rw c.in-None.is (on_ok_weaker c.push_null.result (λ e. (null, refl, e)) c.push_null.ensures)
