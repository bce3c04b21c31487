use Rattle.std.proofs.Common.{ℤ, OnOk, w64, to_z, of_z, subst}
use Rattle.std.proofs.lemmas.Int.{to_z-of_z}
use Rattle.std.specs.String.{string_bytes}
use Rattle.zk_session_lines.proofs.Rowed.{time_spaced}
use Rattle.zk_session_lines.specs.Appending.{Appends}
use Rattle.zk_session_lines.specs.Rows.{IsSpacedTime}
use Rattle.zk_session_lines.proofs.rows.push_spaced_time.Goals as goal

pub returns : goal.returns
returns c =
    let old = string_bytes c.args.text.now in
    let new = string_bytes c.push_time.new.text in
    subst (λ (t : ℤ). OnOk c.push_time.result (Appends (IsSpacedTime t) old new)) (to_z-of_z w64 c.args.time c.ranges.time)
    (time_spaced c.push_time.result (to_z w64 (of_z w64 c.args.time)) old (string_bytes c.push_space.new.text) new c.in_ok-push_space.ensures c.push_time.ensures)
