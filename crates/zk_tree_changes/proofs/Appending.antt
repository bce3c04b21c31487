-- Texts that are appended one after another.
use Rattle.std.proofs.Common.{◌≡◌, ℕ, List, ◌++◌, ap, ◌∙◌, append_assoc}

pub two_appended : (old one two a b : List ℕ) → one ≡ old ++ a → two ≡ one ++ b → two ≡ old ++ (a ++ b)
two_appended old one two a b e f = f ∙ ap (λ t. t ++ b) e ∙ append_assoc old a b

pub four_appended : (old one two three four a b c d : List ℕ) → one ≡ old ++ a → two ≡ one ++ b → three ≡ two ++ c → four ≡ three ++ d → four ≡ old ++ (((a ++ b) ++ c) ++ d)
four_appended old one two three four a b c d e f g h = two_appended old three four ((a ++ b) ++ c) d (two_appended old two three (a ++ b) c (two_appended old one two a b e f) g) h
