use Rattle.std.proofs.Common.{ap, lit<, ◌≢◌, ◌∷◌, ℕ, List}
use Rattle.std.specs.Option.{option_and_then}
use Rattle.std.proofs.lemmas.Option.{MatchOption-at_none}
use Rattle.std.proofs.lemmas.Str.Pattern.{strip_prefix_char}
use Rattle.zk_listing.specs.Reading.{control_at}
use Rattle.zk_listing.proofs.FieldLaws.{past_none}
use Rattle.zk_listing.proofs.quoting.braced.Goals as goal

pub returns-in-None : goal.returns-in-None
returns-in-None c =
    let text = c.args.input.now.now in
    let no_brace : (rest : List ℕ) → text ≢ 123 ∷ rest = MatchOption-at_none _ _ c.in-None.is (strip_prefix_char 123 text c.strip_prefix.result c.strip_prefix.ensures.cases (lit< tt)) in
    ap (option_and_then control_at) (past_none 123 text no_brace)
