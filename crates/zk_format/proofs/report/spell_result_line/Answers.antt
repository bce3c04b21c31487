use Rattle.std.proofs.Common.{◌≡◌, ◌∷◌, ◌++◌, [], rules}
use Rattle.std.specs.Prelude.{codes}
use Rattle.std.specs.String.{string_bytes}
use Rattle.std.specs.List.{flat_map}
use Rattle.zk_format.specs.Reports.{answer_text, part_answer}
use Rattle.zk_format.specs.Spelling.{id_digits}
use Rattle.zk_format.proofs.Appending.{answer_pieces}
use Rattle.zk_format.proofs.report.spell_result_line.Goals as goal

pub returns : goal.returns
returns c =
    let answer = c.args.answer.now in
    let word : string_bytes c.push_str.new.self ≡ string_bytes c.args.line.now ++ codes "result " = search rules in
    let zxid : string_bytes c.push_id.new.line ≡ string_bytes c.push_str.new.self ++ id_digits answer.zxid = search rules in
    let space : string_bytes c.push.new.self ≡ string_bytes c.push_id.new.line ++ 32 ∷ [] = search rules in
    let own : string_bytes c.spell_answer.new.line ≡ string_bytes c.push.new.self ++ answer_text answer.err answer.path answer.stat = search rules in
    let parts : string_bytes c.spell_part_answers.new.line ≡ string_bytes c.spell_answer.new.line ++ flat_map part_answer answer.parts = search rules in
    rw (parts, own, space, zxid, word) (answer_pieces (string_bytes c.args.line.now) (codes "result ") (id_digits answer.zxid) (answer_text answer.err answer.path answer.stat) (flat_map part_answer answer.parts))
