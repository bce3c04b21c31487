use Rattle.std.proofs.Common.{◌≢◌, ◌∷◌, ℕ, List, lit<}
use Rattle.std.proofs.lemmas.Option.{MatchOption-at_none}
use Rattle.std.proofs.lemmas.Str.Pattern.{strip_prefix_char}
use Rattle.zk_listing.proofs.FieldLaws.{past_none}
use Rattle.zk_request_syntax.proofs.words.take_space.Goals as goal

pub returns-in-None-clause-taken : goal.returns-in-None-clause-taken
returns-in-None-clause-taken c =
    let text = c.args.input.now.now in
    let no_space : (rest : List ℕ) → text ≢ 32 ∷ rest = MatchOption-at_none _ _ c.in-None.is (strip_prefix_char 32 text c.strip_prefix.result c.strip_prefix.ensures.cases (lit< tt)) in
    past_none 32 text no_space
