-- Bytes written one field after another.
use Rattle.std.proofs.Common.{◌≡◌, ℕ, List, ◌++◌, append_assoc, ap, ◌∙◌}

pub joined_two : (out a b one two : List ℕ) → one ≡ out ++ a → two ≡ one ++ b → two ≡ out ++ (a ++ b)
joined_two out a b one two p q = q ∙ (ap (λ xs. xs ++ b) p ∙ append_assoc out a b)

pub joined_three : (out a b c one two three : List ℕ) → one ≡ out ++ a → two ≡ one ++ b → three ≡ two ++ c → three ≡ out ++ ((a ++ b) ++ c)
joined_three out a b c one two three p q r = joined_two out (a ++ b) c two three (joined_two out a b one two p q) r

pub joined_four : (out a b c d one two three four : List ℕ) → one ≡ out ++ a → two ≡ one ++ b → three ≡ two ++ c → four ≡ three ++ d → four ≡ out ++ (((a ++ b) ++ c) ++ d)
joined_four out a b c d one two three four p q r s = joined_two out ((a ++ b) ++ c) d three four (joined_three out a b c one two three p q r) s

pub joined_five : (out a b c d e one two three four five : List ℕ) → one ≡ out ++ a → two ≡ one ++ b → three ≡ two ++ c → four ≡ three ++ d → five ≡ four ++ e → five ≡ out ++ ((((a ++ b) ++ c) ++ d) ++ e)
joined_five out a b c d e one two three four five p q r s t = joined_two out (((a ++ b) ++ c) ++ d) e four five (joined_four out a b c d one two three four p q r s) t
