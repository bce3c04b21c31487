-- A text to which five parts were appended.
use Rattle.std.proofs.Common.{◌≡◌, ℕ, List, [], ◌++◌, ap, ◌∙◌}

pub five_parts : (a b c d e t u v w x y : List ℕ) → t ≡ [] → u ≡ t ++ a → v ≡ u ++ b → w ≡ v ++ c → x ≡ w ++ d → y ≡ x ++ e → y ≡ a ++ b ++ c ++ d ++ e
five_parts a b c d e t u v w x y p q r s f g =
    g ∙ ap (λ l. l ++ e) (f ∙ ap (λ l. l ++ d) (s ∙ ap (λ l. l ++ c) (r ∙ ap (λ l. l ++ b) (q ∙ ap (λ l. l ++ a) p))))
