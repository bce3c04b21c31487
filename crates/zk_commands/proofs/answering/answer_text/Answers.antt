use Rattle.std.proofs.Common.{◌≡◌, ◌∙◌, ◌⊎◌, ℕ, List, ap, inl, subst}
use Rattle.std.specs.String.{string_bytes}
use Rattle.zk_commands.specs.Answering.{Appends, AnswersCommand, AnswersOther}
use Rattle.zk_commands.specs.Shorthand.{long_form}
use Rattle.zk_commands.proofs.LastLines.{answers_kept}
use Rattle.zk_commands.proofs.answering.answer_text.Goals as goal

pub returns : goal.returns
returns c =
    let h = c.in_ok-turn.ensures in
    let heard : c.as_str-2.result.now ≡ long_form (string_bytes c.in_ok-said.said) = c.as_str-2.ensures.value ∙ c.in_ok-text.ensures ∙ ap long_form c.as_str.ensures.value in
    record {
      answer = h.answer;
      answers = inl (record {
        last = c.in_ok-said.ensures;
        answers = answers_kept c.args.session.now (long_form (string_bytes c.in_ok-said.said)) h.answer c.answer_long.new.session c.in_ok-said.said c.in_ok-turn.turn
            (subst (λ (l : List ℕ). AnswersCommand c.args.session.now l h.answer c.in_ok-turn.turn c.answer_long.new.session ⊎ AnswersOther c.args.session.now l h.answer c.in_ok-turn.turn c.answer_long.new.session) heard h.answers);
      });
      told = h.told;
    }
