use Rattle.std.proofs.Common.{◌≢◌, ◌∷◌, ℕ, List, lit<}
use Rattle.std.proofs.lemmas.Option.{MatchOption-at_none}
use Rattle.std.proofs.lemmas.Str.Pattern.{strip_prefix_char}
use Rattle.zk_listing.proofs.FieldLaws.{past_none}
use Rattle.zk_request_syntax.proofs.Flags.{no_flag}
use Rattle.zk_request_syntax.proofs.words.flag.Goals as goal

pub returns-in_default : goal.returns-in_default
returns-in_default c =
    let text = c.args.input.now.now in
    let no_space : (rest : List ℕ) → text ≢ 32 ∷ rest = MatchOption-at_none _ _ c.in_default.is (strip_prefix_char 32 text c.strip_prefix.result c.strip_prefix.ensures.cases (lit< tt)) in
    no_flag c.args.word.now text (past_none 32 text no_space)
