use Rattle.std.proofs.Common.{rules}
use Rattle.std.specs.String.{string_bytes}
use Rattle.zk_session_lines.proofs.Lifed.{object_shown}
use Rattle.zk_session_lines.proofs.row_objects.push_row_object.Goals as goal

pub returns : goal.returns
returns c =
    object_shown c.push_object.result c.args.session c.args.life c.end_moment.result (string_bytes c.in_ok-opened.opened) (string_bytes c.in_ok-timeout.timeout) (string_bytes c.in_ok-ended.ended) _ _ _ _ (string_bytes c.args.text.now) (string_bytes c.push_object.new.text)
    c.end_moment.ensures c.in_ok-opened.ensures c.in_ok-timeout.ensures c.in_ok-ended.ensures c.push_object.ensures (search rules) c.as_str.ensures.value c.as_str-2.ensures.value c.as_str-3.ensures.value
