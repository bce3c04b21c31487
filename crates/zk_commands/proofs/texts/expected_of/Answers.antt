use Rattle.std.proofs.Common.{◌≡◌, lit<}
use Rattle.zk_debug.proofs.Words.{by_word_alone, by_word_and_field}
use Rattle.zk_commands.specs.Texts.{expected_for}
use Rattle.zk_commands.proofs.texts.expected_of.Goals as goal

pub returns-in-None : goal.returns-in-None
returns-in-None c =
    by_word_alone (λ word field. c.expected_for.result.now ≡ expected_for word) c.args.line.now (c.in-None.ensures.byte (lit< tt) (λ w o h. h)) c.expected_for.ensures

pub returns-in-Some : goal.returns-in-Some
returns-in-Some c =
    let cut = c.in-Some.ensures.byte (lit< tt) (λ w o h. h) in
    by_word_and_field (λ word field. c.expected_for-in-Some.result.now ≡ expected_for word) c.args.line.now c.in-Some.word.now _ cut.0 cut.1 cut.2 c.expected_for-in-Some.ensures
