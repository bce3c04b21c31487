use Rattle.std.proofs.Common.{◌≡◌, ◌≢◌, ◌∷◌, ℕ, List, lit<}
use Rattle.std.proofs.lemmas.Option.{MatchOption-at_none, MatchOption-at_some}
use Rattle.std.proofs.lemmas.Str.Pattern.{strip_prefix_char}
use Rattle.zk_listing.proofs.FieldLaws.{past_none}
use Rattle.zk_listing.proofs.QuotedLaws.{quoted_none, quoted_answers}
use Rattle.zk_listing.proofs.quoting.quoted.Goals as goal

pub returns-in-Some : goal.returns-in-Some
returns-in-Some c =
    let text = c.args.input.now.now in
    let begins : text ≡ 34 ∷ c.in-Some.rest.now = MatchOption-at_some _ _ c.in-Some.rest c.in-Some.is (strip_prefix_char 34 text c.strip_prefix.result c.strip_prefix.ensures.cases (lit< tt)) in
    quoted_answers c.inside.result c.in-Some.rest.now c.inside.new.input.now text begins c.inside.ensures

pub returns-in-None-take_field : goal.returns-in-None-take_field
returns-in-None-take_field c =
    let text = c.args.input.now.now in
    let no_quote : (rest : List ℕ) → text ≢ 34 ∷ rest = MatchOption-at_none _ _ c.in-None.is (strip_prefix_char 34 text c.strip_prefix.result c.strip_prefix.ensures.cases (lit< tt)) in
    quoted_none text (past_none 34 text no_quote)

pub returns-in-Some-take_field : goal.returns-in-Some-take_field
returns-in-Some-take_field c =
    let text = c.args.input.now.now in
    let no_quote : (rest : List ℕ) → text ≢ 34 ∷ rest = MatchOption-at_none _ _ c.in-None.is (strip_prefix_char 34 text c.strip_prefix.result c.strip_prefix.ensures.cases (lit< tt)) in
    quoted_none text (past_none 34 text no_quote)
