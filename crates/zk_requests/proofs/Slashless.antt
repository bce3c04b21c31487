-- What stands before the last slash of a text, which may have none.
use Rattle.std.proofs.Common.{◌≡◌, ℕ, Bool, true, false, cond, ◌||◌, ◌==◌, List, [], ◌∷◌, length, None, codes, refl, sym, ap, ◌∙◌, lit<}
use Rattle.std.proofs.lemmas.Bool.{false≢true, cond-true, cond-false}
use Rattle.std.proofs.lemmas.Str.Pattern.{NoCharPasses-char}
use Rattle.std.specs.Str.Pattern.{RFindsChar, SplitsAroundMatch}
use Rattle.zk_path.specs.Paths.{has_slash, before_last_slash}
use Rattle.zk_path.proofs.Slashes.{cuts_at_last_slash, before_last_slash_at, has_slash_nowhere}
use Rattle.zk_requests.specs.Requests.{text_above}

second_false : (a b : Bool) → (a || b) ≡ false → b ≡ false
second_false true b e = absurd (false≢true (sym e))
second_false false b e = e

nothing_before : (text : List ℕ) → has_slash text ≡ false → before_last_slash text ≡ []
nothing_before [] e = refl
nothing_before (b ∷ bs) e = cond-false (has_slash bs) (b ∷ before_last_slash bs) [] (second_false _ (has_slash bs) e)

-- the root, where there is no slash
pub above_none : (text : List ℕ) → RFindsChar 47 text None → 47 ∷ [] ≡ text_above text
above_none text none = ap (λ a. cond (length a == 0) (codes "/") a) (sym (nothing_before text (has_slash_nowhere text (λ i h. NoCharPasses-char 47 text i none (lit< tt) h))))

module _ (text above name : List ℕ) (cut : SplitsAroundMatch (RFindsChar 47) text above name) where
  before : above ≡ before_last_slash text
  before = let at = cuts_at_last_slash text above name cut in sym (ap before_last_slash at.whole ∙ before_last_slash_at above name at.last)

  pub above_empty : (length above == 0) ≡ true → 47 ∷ [] ≡ text_above text
  above_empty e = sym (cond-true (length above == 0) (codes "/") above e) ∙ ap (λ a. cond (length a == 0) (codes "/") a) before

  pub above_filled : (length above == 0) ≡ false → above ≡ text_above text
  above_filled e = sym (cond-false (length above == 0) (codes "/") above e) ∙ ap (λ a. cond (length a == 0) (codes "/") a) before
