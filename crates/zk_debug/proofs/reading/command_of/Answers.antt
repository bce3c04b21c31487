use Rattle.std.proofs.Common.{◌≡◌, lit<}
use Rattle.zk_debug.specs.Reading.{Makes, command_by, command_from}
use Rattle.zk_debug.proofs.Commands.{alone_makes}
use Rattle.zk_debug.proofs.Words.{by_word_alone, by_word_and_field}
use Rattle.zk_debug.proofs.reading.command_of.Goals as goal

pub returns-in-None : goal.returns-in-None
unfolding command_from
returns-in-None c =
    by_word_alone (λ word field. Makes c.ok_or.result (command_by word field)) c.args.line.now (c.in-None.ensures.byte (lit< tt) (λ w o h. h)) (alone_makes c.command_alone.result c.ok_or.result c.args.line.now c.command_alone.ensures c.ok_or.ensures.value)

pub returns-in-Some : goal.returns-in-Some
unfolding command_from
returns-in-Some c =
    let cut = c.in-Some.ensures.byte (lit< tt) (λ w o h. h) in
    by_word_and_field (λ word field. Makes c.command_with.result (command_by word field)) c.args.line.now c.in-Some.word.now c.in-Some.field.now cut.0 cut.1 cut.2 c.command_with.ensures
