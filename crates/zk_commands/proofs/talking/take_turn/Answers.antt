use Rattle.std.proofs.Common.{◌∙◌, Result, Ok, Err, sym, ap, subst}
use Rattle.std.proofs.lemmas.Result.{err_from_is_err_and}
use Rattle.zk_records.specs.Sinks.{writer_of}
use Rattle.zk_log.specs.Devices.{reader_of}
use Rattle.zk_commands.specs.declared.session.TalkFault.{TalkFault}
use Rattle.zk_commands.specs.declared.session.Turn.{Turn}
use Rattle.zk_commands.specs.HearingLines.{Hears}
use Rattle.zk_commands.specs.Talking.{TakesTurn}
use Rattle.zk_commands.specs.declared.hearing_lines.ReadLine.{ReadLine}
use Rattle.zk_commands.specs.declared.hearing_lines.ReadLine.TheVariants as heards
use Rattle.zk_commands.proofs.TurnLaws.{turn_unprompted, turn_answered}
use Rattle.zk_commands.proofs.talking.take_turn.Goals as goal

pub returns-in_err-put_prompt-clause-turn : goal.returns-in_err-put_prompt-clause-turn
returns-in_err-put_prompt-clause-turn g c =
    let p = err_from_is_err_and c.from_residual.result c.from_residual.ensures.1 in
    let left = g.L.Read.remaining (reader_of c.args.lines.now) in
    let before = g.O.Write.contents (writer_of c.args.output.now) in
    let after = g.O.Write.contents (writer_of c.put_prompt.new.output) in
    subst (λ (r : Result Turn TalkFault). TakesTurn c.args.prompts c.args.session.now left left before after r c.args.session.now) (sym (p.1 ∙ ap (λ (f : TalkFault). Err f) p.2))
    (turn_unprompted c.args.prompts c.args.session.now left g.O.Write.contents c.args.output.now c.put_prompt.new.output c.in_err-put_prompt.field-0.0 c.in_err-put_prompt.ensures)

pub returns-in-Line-clause-turn : goal.returns-in-Line-clause-turn
returns-in-Line-clause-turn g c =
    let left = g.L.Read.remaining (reader_of c.args.lines.now) in
    let left' = g.L.Read.remaining (reader_of c.hear_line.new.lines) in
    let before = g.O.Write.contents (writer_of c.args.output.now) in
    let middle = g.O.Write.contents (writer_of c.put_prompt.new.output) in
    let after = g.O.Write.contents (writer_of c.put_answer.new.output) in
    let heard : Hears left left' c.hear_line.new.line (Ok heards.Line) = subst (λ (h : ReadLine). Hears left left' c.hear_line.new.line (Ok h)) c.in-Line.is c.in_ok-hear_line.ensures.heard in
    turn_answered c.args.prompts c.args.session.now left left' before after middle c.in_ok-put_prompt.ensures.bytes heard.0 heard.1 c.put_answer.new.session c.put_answer.result (c.put_answer.ensures.answer heard.0 heard.2)
