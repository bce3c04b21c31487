use Rattle.std.proofs.Common.{◌≡◌, true, false, lit<, rules}
use Rattle.std.proofs.lemmas.Str.Pattern.{strip_prefix_char}
use Rattle.std.specs.Str.{bytes_eq}
use Rattle.zk_listing.specs.Reading.{front_of}
use Rattle.zk_line_protocol.proofs.Texts.{behind_so, behind_other}
use Rattle.zk_line_protocol.proofs.reading.behind_word.Goals as goal

pub returns-then-eq : goal.returns-then-eq
returns-then-eq c =
    let same : bytes_eq (front_of c.args.line.now) c.args.word.now ≡ true = search rules in
    let split = strip_prefix_char 32 c.take_word.new.input.now c.strip_prefix.result c.strip_prefix.ensures.cases (lit< tt) in
    behind_so c.args.word.now c.args.line.now c.take_word.new.input.now c.strip_prefix.result same c.take_word.ensures.rest split

pub returns : goal.returns
returns c =
    let other : bytes_eq (front_of c.args.line.now) c.args.word.now ≡ false = search rules in
    behind_other c.args.word.now c.args.line.now other
