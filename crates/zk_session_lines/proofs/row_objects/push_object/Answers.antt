use Rattle.std.proofs.Common.{Option, rules, ap, ◌∙◌}
use Rattle.std.specs.String.{string_bytes}
use Rattle.zk_session_lines.proofs.Lifed.{object_from}
use Rattle.zk_session_lines.specs.RowObjects.{time_of, zxid_of}
use Rattle.zk_session_lines.proofs.row_objects.push_object.Goals as goal
use Rattle.zk_sessions.specs.declared.moment.Moment.{Moment}

pub returns : goal.returns
returns c =
    let ended = c.args.ended.now in
    object_from c.push_object_line.result c.args.session c.args.life c.args.opened.now c.args.timeout.now ended (string_bytes c.args.text.now) (string_bytes c.push_object_line.new.text) _ _ _ _ _ _ _ _ _ _ _
    c.push_object_line.ensures (search rules) c.zxid_of.ensures c.time_of.ensures c.timeout_of.ensures (search rules) (search rules) (search rules) (search rules) c.end_name.ensures (c.zxid_of-2.ensures ∙ ap zxid_of c.end_moment-end.ensures)
    (c.time_of-2.ensures ∙ ap (λ (m : Option Moment). time_of m ended) c.end_moment-end.ensures)
