use Rattle.std.proofs.Common.{◌≡◌, ◌∙◌, ap, option_map}
use Rattle.std.specs.String.{string_bytes}
use Rattle.zk_line_protocol.specs.Connections.{doing}
use Rattle.zk_line_protocol.specs.declared.ask.Action.{Action}
use Rattle.zk_line_protocol.specs.declared.ask.Action.TheVariants as deeds
use Rattle.zk_front.proofs.Answered.{answered_told, not_answered, answered_at_once, not_taken}
use Rattle.zk_front.proofs.answering.answer.Goals as goal

pub returns-in_err-saying-clause-err : goal.returns-in_err-saying-clause-err
returns-in_err-saying-clause-err g c = not_taken g.S.Service.does c.args.service.now c.args.standing.now (option_map (λ bytes. bytes.now) c.args.line) c.from_residual.result

pub returns-in-Says-clause-ok : goal.returns-in-Says-clause-ok
returns-in-Says-clause-ok g c =
    answered_at_once g.S.Service.does c.args.service.now c.args.standing.now c.take.new.self c.in-Says.saying (option_map (λ bytes. bytes.now) c.args.line) (option_map (λ text. text.now) c.text_of.result) (string_bytes c.args.page.now) (string_bytes c.push_saying.new.page) c.push_saying.result
    c.text_of.ensures (c.in_ok-saying.ensures ∙ ap (λ (deed : Action). (c.take.new.self, deed)) c.in-Says.is) c.push_saying.ensures

pub returns-in-Says-clause-err : goal.returns-in-Says-clause-err
returns-in-Says-clause-err g c = not_taken g.S.Service.does c.args.service.now c.args.standing.now (option_map (λ bytes. bytes.now) c.args.line) c.push_saying.result

pub returns-in-Asks-clause-ok : goal.returns-in-Asks-clause-ok
returns-in-Asks-clause-ok g c =
    answered_told g.S.Service.does c.args.service.now c.ask-told.new.self c.args.standing.now c.take.new.self c.tell.new.self c.in-Asks.ask c.in-Asks.wish c.ask-told.result (option_map (λ bytes. bytes.now) c.args.line) (option_map (λ text. text.now) c.text_of.result)
    (string_bytes c.args.page.now) (string_bytes c.tell.new.page) c.tell.result c.ask-told.ensures c.text_of.ensures (c.in_ok-saying.ensures ∙ ap (λ (deed : Action). (c.take.new.self, deed)) c.in-Asks.is) c.tell.ensures

pub returns-in-Asks-clause-err : goal.returns-in-Asks-clause-err
returns-in-Asks-clause-err g c =
    not_answered g.S.Service.does c.args.service.now c.ask-told.new.self c.args.standing.now c.take.new.self c.in-Asks.ask c.in-Asks.wish c.ask-told.result (option_map (λ bytes. bytes.now) c.args.line) (option_map (λ text. text.now) c.text_of.result) c.tell.result
    c.ask-told.ensures c.text_of.ensures (c.in_ok-saying.ensures ∙ ap (λ (deed : Action). (c.take.new.self, deed)) c.in-Asks.is)
