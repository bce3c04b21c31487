-- The text before the last slash.
use Rattle.std.proofs.Common.{◌≡◌, ℕ, Bool, true, false, ◌||◌, List, [], ◌∷◌, None, refl, sym, ap, ◌∙◌, lit<}
use Rattle.std.proofs.lemmas.Bool.{cond-false}
use Rattle.std.proofs.lemmas.Str.Pattern.{NoCharPasses-char}
use Rattle.std.specs.Str.Pattern.{RFindsChar, SplitsAroundMatch}
use Rattle.zk_path.proofs.Slashes.{before_last_slash_at, cuts_at_last_slash, has_slash_nowhere}
use Rattle.zk_path.specs.Paths.{before_last_slash, has_slash, is_slash}

pub at_slash : (text above name : List ℕ) → SplitsAroundMatch (RFindsChar 47) text above name → above ≡ before_last_slash text
at_slash text above name s =
    let cut = cuts_at_last_slash text above name s in
    sym (ap before_last_slash cut.whole ∙ before_last_slash_at above name cut.last)

right_of : (a b : Bool) → (a || b) ≡ false → b ≡ false
right_of true b e = cc
right_of false b e = e

none_before : (text : List ℕ) → has_slash text ≡ false → before_last_slash text ≡ []
none_before [] e = refl
none_before (b ∷ bs) e = cond-false (has_slash bs) _ _ (right_of (is_slash b) (has_slash bs) e)

pub without_slash : (text : List ℕ) → RFindsChar 47 text None → [] ≡ before_last_slash text
without_slash text none = sym (none_before text (has_slash_nowhere text (λ k lt. λ e. NoCharPasses-char 47 text k none (lit< tt) lt e)))
