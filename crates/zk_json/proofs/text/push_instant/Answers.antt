use Rattle.std.proofs.Common.{ℕ, ◌++◌, Bool, Option, Some, ap, ◌∙◌}
use Rattle.jiff_core.specs.declared.timestamp.Timestamp.{Timestamp}
use Rattle.jiff_fmt.specs.Text.{datetime_text, zulu_text}
use Rattle.zk_json.proofs.text.push_instant.Goals as goal

pub returns : goal.returns
returns c =
    let told = c.timestamp_text-shown.ensures in
    let options = c.precision-printer.ensures ∙ ap (λ (q : Bool × ℕ × Option ℕ). (q.0, q.1, Some 3)) c.new.ensures in
    (c.as_str.result.now, (told.0, told.1 ∙ ap (λ (t : Timestamp). t.nanosecond) c.to_plain.ensures, c.as_str.ensures.value ∙ told.2 ∙ ap (λ (q : Bool × ℕ × Option ℕ). datetime_text q.0 q.1 q.2 told.0 ++ zulu_text q.0) options), c.in_ok-push_str.ensures.bytes)
