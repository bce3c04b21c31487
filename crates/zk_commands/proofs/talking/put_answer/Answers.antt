use Rattle.std.proofs.Common.{◌∙◌, Result, Err, sym, ap, subst}
use Rattle.std.proofs.lemmas.Result.{err_from_is_err_and}
use Rattle.std.specs.String.{string_bytes}
use Rattle.zk_records.specs.Sinks.{writer_of}
use Rattle.zk_commands.specs.declared.session.TalkFault.{TalkFault}
use Rattle.zk_commands.specs.declared.session.Turn.{Turn}
use Rattle.zk_commands.specs.Talking.{PutsAnswer}
use Rattle.zk_commands.proofs.TurnLaws.{put_broken}
use Rattle.zk_commands.proofs.talking.put_answer.Goals as goal

pub returns-in_err-write_all-clause-answer : goal.returns-in_err-write_all-clause-answer
returns-in_err-write_all-clause-answer g c text holds =
    let p = err_from_is_err_and c.from_residual-in_err-write_all.result c.from_residual-in_err-write_all.ensures.1 in
    let before = g.O.Write.contents (writer_of c.args.output.now) in
    let after = g.O.Write.contents (writer_of c.write_all.new.self) in
    subst (λ (r : Result Turn TalkFault). PutsAnswer c.args.session.now text before after r c.answer_heard.new.session) (sym (p.1 ∙ ap (λ (f : TalkFault). Err f) p.2))
    (put_broken c.args.session.now text (string_bytes c.new-page.result) (string_bytes c.answer_heard.new.page) c.as_bytes.result.now before after c.in_ok-turn.turn c.answer_heard.new.session c.new-page.ensures.bytes c.as_bytes.ensures.value (c.in_ok-turn.ensures text holds) c.in_err-write_all.ensures.err)
