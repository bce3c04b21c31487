-- Bytes written in parts.
use Rattle.std.proofs.Common.{◌≡◌, ℕ, List, ◌++◌, append_assoc, ap, ◌∙◌}

pub joined_two : (out a b one two : List ℕ) → one ≡ out ++ a → two ≡ one ++ b → two ≡ out ++ (a ++ b)
joined_two out a b one two p q = q ∙ (ap (λ xs. xs ++ b) p ∙ append_assoc out a b)

pub joined_three : (out a b c first second third : List ℕ) → first ≡ out ++ a → second ≡ first ++ b → third ≡ second ++ c → third ≡ out ++ ((a ++ b) ++ c)
joined_three out a b c first second third p q r = joined_two out (a ++ b) c second third (joined_two out a b first second p q) r

pub joined_four : (out a b c d first second third fourth : List ℕ) → first ≡ out ++ a → second ≡ first ++ b → third ≡ second ++ c → fourth ≡ third ++ d → fourth ≡ out ++ (((a ++ b) ++ c) ++ d)
joined_four out a b c d first second third fourth p q r s = joined_two out ((a ++ b) ++ c) d third fourth (joined_three out a b c first second third p q r) s

pub joined_six : (out a b c d e f one two three four five six : List ℕ) → one ≡ out ++ a → two ≡ one ++ b → three ≡ two ++ c → four ≡ three ++ d → five ≡ four ++ e → six ≡ five ++ f → six ≡ out ++ (((((a ++ b) ++ c) ++ d) ++ e) ++ f)
joined_six out a b c d e f one two three four five six p q r s t u =
    joined_two out ((((a ++ b) ++ c) ++ d) ++ e) f five six (joined_two out (((a ++ b) ++ c) ++ d) e four five (joined_four out a b c d one two three four p q r s) t) u
