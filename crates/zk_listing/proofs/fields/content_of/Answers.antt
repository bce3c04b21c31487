use Rattle.std.proofs.Common.{◌≡◌, false, refl, sym, ◌∙◌, lit<}
use Rattle.std.specs.Str.{bytes_eq}
use Rattle.std.specs.Prelude.{[], ◌∷◌, ◌≢◌, List, ℕ}
use Rattle.std.proofs.lemmas.Option.{MatchOption-at_none}
use Rattle.std.proofs.lemmas.Str.Pattern.{strip_prefix_char}
use Rattle.zk_listing.specs.Reading.{content_from}
use Rattle.zk_listing.proofs.FieldLaws.{past_none}
use Rattle.zk_listing.proofs.fields.content_of.Goals as goal

pub returns-in-None : goal.returns-in-None
unfolding content_from
returns-in-None c =
    let field = c.args.field.now in
    let not_null : bytes_eq field (45 ∷ []) ≡ false = sym c.eq.ensures ∙ c.if-eq.false in
    let no_x : (rest : List ℕ) → field ≢ 120 ∷ rest = MatchOption-at_none _ _ c.in-None.is (strip_prefix_char 120 field c.strip_prefix.result c.strip_prefix.ensures.cases (lit< tt)) in
    rw (not_null, past_none 120 field no_x) refl
