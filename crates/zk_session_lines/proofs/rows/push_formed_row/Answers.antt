use Rattle.std.proofs.Common.{w64, to_z, of_z}
use Rattle.std.proofs.lemmas.Int.{to_z-of_z}
use Rattle.std.specs.String.{string_bytes}
use Rattle.zk_session_lines.proofs.Lifed.{formed_object, formed_text}
use Rattle.zk_session_lines.proofs.rows.push_formed_row.Goals as goal

pub returns-in-Text : goal.returns-in-Text
returns-in-Text c =
    formed_text c.push_row.result c.args.form c.args.session c.args.life (to_z w64 (of_z w64 c.args.session)) (string_bytes c.args.text.now) (string_bytes c.push_row.new.text) c.in-Text.is c.push_row.ensures
    (to_z-of_z w64 c.args.session c.ranges.session)

pub returns-in-Json : goal.returns-in-Json
returns-in-Json c =
    formed_object c.push_row_object.result c.args.form c.args.session c.args.life (to_z w64 (of_z w64 c.args.session)) (string_bytes c.args.text.now) (string_bytes c.push_row_object.new.text) c.in-Json.is c.push_row_object.ensures
    (to_z-of_z w64 c.args.session c.ranges.session)
