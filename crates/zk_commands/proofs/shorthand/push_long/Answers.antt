use Rattle.std.proofs.Common.{◌≡◌, ◌++◌, OnOk, lit<}
use Rattle.std.specs.String.{string_bytes}
use Rattle.zk_debug.proofs.Words.{by_word_alone, by_word_and_field}
use Rattle.zk_commands.specs.Shorthand.{line_by, long_word}
use Rattle.zk_commands.proofs.shorthand.push_long.Goals as goal

pub returns-in-None : goal.returns-in-None
returns-in-None c =
    by_word_alone (λ word field. OnOk c.push_word.result (string_bytes c.push_word.new.text ≡ string_bytes c.args.text.now ++ line_by (long_word word) field)) c.args.line.now (c.in-None.ensures.byte (lit< tt) (λ w o h. h)) c.push_word.ensures

pub returns-in-Some : goal.returns-in-Some
returns-in-Some c =
    let cut = c.in-Some.ensures.byte (lit< tt) (λ w o h. h) in
    by_word_and_field (λ word field. OnOk c.push_with.result (string_bytes c.push_with.new.text ≡ string_bytes c.args.text.now ++ line_by (long_word word) field)) c.args.line.now c.in-Some.word.now c.in-Some.field.now cut.0 cut.1 cut.2 c.push_with.ensures
