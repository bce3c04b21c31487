use Rattle.std.proofs.Common.{w64, rules}
use Rattle.std.proofs.lemmas.Int.{to_z-of_z}
use Rattle.std.specs.String.{string_bytes}
use Rattle.zk_session_lines.proofs.Rowed.{moment_from}
use Rattle.zk_session_lines.proofs.rows.push_moment.Goals as goal

pub returns : goal.returns
returns c =
    let moment = c.args.moment in
    moment_from c.push_next_id.result moment (string_bytes c.args.text.now) (string_bytes c.push_spaced_time.new.text) (string_bytes c.push_next_id.new.text) _ _
    (to_z-of_z w64 moment.time (search rules)) (to_z-of_z w64 moment.zxid (search rules)) c.in_ok-push_spaced_time.ensures c.push_next_id.ensures
