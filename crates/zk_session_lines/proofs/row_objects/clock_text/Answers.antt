use Rattle.std.proofs.Common.{ℤ, w64, to_z, of_z, subst}
use Rattle.std.proofs.lemmas.Int.{to_z-of_z}
use Rattle.std.specs.String.{string_bytes}
use Rattle.zk_json.specs.Times.{IsTimeText}
use Rattle.zk_session_lines.proofs.Lifed.{clock}
use Rattle.zk_session_lines.proofs.row_objects.clock_text.Goals as goal

pub returns : goal.returns
returns c =
    let text = string_bytes c.push_time.new.text in
    subst (λ (t : ℤ). IsTimeText t text) (to_z-of_z w64 c.args.time c.ranges.time) (clock (to_z w64 (of_z w64 c.args.time)) (string_bytes c.new-clock.result) text c.new-clock.ensures.bytes c.in_ok-push_time.ensures)
