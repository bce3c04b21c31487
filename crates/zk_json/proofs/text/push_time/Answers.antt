use Rattle.std.proofs.Common.{◌≡◌, w64, ap, ◌∙◌}
use Rattle.std.proofs.lemmas.Int.{to_z-of_z}
use Rattle.std.proofs.lemmas.Result.{on_ok_weaker}
use Rattle.std.specs.String.{string_bytes}
use Rattle.zk_json.proofs.Texts.{appended_at}
use Rattle.zk_json.specs.Times.{nanoseconds}
use Rattle.zk_json.proofs.text.push_time.Goals as goal

pub returns-in-Ok : goal.returns-in-Ok
returns-in-Ok c =
    let is : c.in-Ok.instant.nanosecond ≡ nanoseconds c.args.time = c.in-Ok.ensures.value ∙ ap nanoseconds (to_z-of_z w64 c.args.time c.ranges.time) in
    on_ok_weaker c.push_instant.result (appended_at (string_bytes c.args.text.now) c.args.time c.in-Ok.instant.nanosecond (string_bytes c.push_instant.new.text) is) c.push_instant.ensures
