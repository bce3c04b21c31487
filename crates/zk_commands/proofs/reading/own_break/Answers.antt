use Rattle.std.proofs.Common.{◌≡◌, None, refl, lit<}
use Rattle.zk_debug.specs.Reading.{Makes}
use Rattle.zk_debug.proofs.Words.{by_word_alone, by_word_and_field}
use Rattle.zk_commands.specs.Words.{break_by, own_break}
use Rattle.zk_commands.proofs.reading.own_break.Goals as goal

pub returns-in-None : goal.returns-in-None
unfolding own_break
returns-in-None c =
    by_word_alone (λ word field. break_by word field ≡ None) c.args.text.now (c.in-None.ensures.byte (lit< tt) (λ w o h. h)) refl

pub returns-in-Some : goal.returns-in-Some
unfolding own_break
returns-in-Some c =
    let cut = c.in-Some.ensures.byte (lit< tt) (λ w o h. h) in
    by_word_and_field (λ word field. Makes c.break_with.result (break_by word field)) c.args.text.now c.in-Some.word.now c.in-Some.field.now cut.0 cut.1 cut.2 c.break_with.ensures
