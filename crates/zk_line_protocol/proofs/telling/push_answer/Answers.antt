use Rattle.std.proofs.Common.{ℕ, List, ◌++◌, sym, ap, ◌∙◌, codes}
use Rattle.std.specs.String.{string_bytes}
use Rattle.zk_line_protocol.specs.Answers.{reply_text}
use Rattle.zk_line_protocol.proofs.AnswerLaws.{unfitting}
use Rattle.zk_line_protocol.proofs.telling.push_answer.Goals as goal

pub returns-clause-page : goal.returns-clause-page
returns-clause-page c =
    c.in_ok-push_str.ensures.bytes
    ∙ ap (λ (l : List ℕ). l ++ codes "err server\n") c.in_ok-push_reply_text.ensures.1
    ∙ unfitting (reply_text c.args.wish.now c.args.reply.now) (string_bytes c.args.page.now) (sym c.if-branch.false ∙ c.in_ok-push_reply_text.ensures.0)
