use Rattle.std.proofs.Common.{sym, ◌∙◌, lit<}
use Rattle.std.proofs.lemmas.Bool.{false≢true}
use Rattle.std.proofs.lemmas.Str.Pattern.{contains_char}
use Rattle.zk_listing.proofs.LineLaws.{line_answers, no_newline}
use Rattle.zk_listing.proofs.assembling.read_line.Goals as goal

pub returns-then-not-contains : goal.returns-then-not-contains
returns-then-not-contains c =
    let text = c.args.input.now.now in
    let found = contains_char 10 text c.contains.result c.contains.ensures.cases (lit< tt) in
    no_newline text (λ k lt e. false≢true (sym c.if-not-contains.true ∙ found.1 k lt e))

pub returns : goal.returns
returns c = line_answers c.txn_line.result c.args.input.now.now c.txn_line.new.input.now c.txn_line.ensures
