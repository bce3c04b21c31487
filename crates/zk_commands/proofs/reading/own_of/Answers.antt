use Rattle.std.proofs.Common.{lit<}
use Rattle.zk_debug.specs.Reading.{Makes}
use Rattle.zk_debug.proofs.Words.{by_word_alone, by_word_and_field}
use Rattle.zk_commands.specs.Words.{own_by, own_from}
use Rattle.zk_commands.proofs.reading.own_of.Goals as goal

pub returns-in-None : goal.returns-in-None
unfolding own_from
returns-in-None c =
    by_word_alone (λ word field. Makes c.own_alone.result (own_by word field)) c.args.line.now (c.in-None.ensures.byte (lit< tt) (λ w o h. h)) c.own_alone.ensures

pub returns-in-Some : goal.returns-in-Some
unfolding own_from
returns-in-Some c =
    let cut = c.in-Some.ensures.byte (lit< tt) (λ w o h. h) in
    by_word_and_field (λ word field. Makes c.own_with.result (own_by word field)) c.args.line.now c.in-Some.word.now c.in-Some.field.now cut.0 cut.1 cut.2 c.own_with.ensures
