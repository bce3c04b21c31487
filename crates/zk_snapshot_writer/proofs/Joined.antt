-- Fields written one after the other.
use Rattle.std.proofs.Common.{◌≡◌, ℕ, ◌+◌, ◌<◌, List, [], ◌∷◌, ◌++◌, length, take, get_or, append_assoc, ap, sym, ◌∙◌}
use Rattle.std.specs.List.{flat_map}
use Rattle.std.proofs.lemmas.List.{append-nil, take_more}
use Rattle.std.proofs.lemmas.List.Concat.{flat_map-append, flat_map-cons}

assoc_three : (out a b c : List ℕ) → ((out ++ a) ++ b) ++ c ≡ out ++ ((a ++ b) ++ c)
assoc_three out a b c = simp append_assoc

assoc_four : (out a b c d : List ℕ) → (((out ++ a) ++ b) ++ c) ++ d ≡ out ++ (((a ++ b) ++ c) ++ d)
assoc_four out a b c d = simp append_assoc

pub joined_three : (out a b c one two three : List ℕ) → one ≡ out ++ a → two ≡ one ++ b → three ≡ two ++ c → three ≡ out ++ ((a ++ b) ++ c)
joined_three out a b c one two three p q r = r ∙ (ap (λ xs. xs ++ c) (q ∙ ap (λ xs. xs ++ b) p) ∙ assoc_three out a b c)

pub joined_four : (out a b c d one two three four : List ℕ) → one ≡ out ++ a → two ≡ one ++ b → three ≡ two ++ c → four ≡ three ++ d → four ≡ out ++ (((a ++ b) ++ c) ++ d)
joined_four out a b c d one two three four p q r s = s ∙ (ap (λ xs. xs ++ d) (r ∙ ap (λ xs. xs ++ c) (q ∙ ap (λ xs. xs ++ b) p)) ∙ assoc_four out a b c d)

assoc_six : (out a b c d e f : List ℕ) → (((((out ++ a) ++ b) ++ c) ++ d) ++ e) ++ f ≡ out ++ (((((a ++ b) ++ c) ++ d) ++ e) ++ f)
assoc_six out a b c d e f = simp append_assoc

pub joined_six : (out a b c d e f one two three four five six : List ℕ) → one ≡ out ++ a → two ≡ one ++ b → three ≡ two ++ c → four ≡ three ++ d → five ≡ four ++ e → six ≡ five ++ f → six ≡ out ++ (((((a ++ b) ++ c) ++ d) ++ e) ++ f)
joined_six out a b c d e f one two three four five six p q r s t u =
    u ∙ (ap (λ xs. xs ++ f) (t ∙ ap (λ xs. xs ++ e) (s ∙ ap (λ xs. xs ++ d) (r ∙ ap (λ xs. xs ++ c) (q ∙ ap (λ xs. xs ++ b) p)))) ∙ assoc_six out a b c d e f)

-- one element more of a vector
pub element_more : {A : Type 0} (element : A → List ℕ) (out head out1 out2 : List ℕ) (xs : List A) (i : ℕ) (x : A) → i < length xs → x ≡ get_or xs i x → out1 ≡ out ++ (head ++ flat_map element (take i xs)) → out2 ≡ out1 ++ element x → out2 ≡ out ++ (head ++ flat_map element (take (i + 1) xs))
element_more element out head out1 out2 xs i x within is so_far one =
    let more : flat_map element (take (i + 1) xs) ≡ flat_map element (take i xs) ++ element x =
    ap (flat_map element) (take_more xs i x within ∙ ap (λ y. take i xs ++ y ∷ []) (sym is))
    ∙ flat_map-append element (take i xs) (x ∷ [])
    ∙ ap (λ (l : List ℕ). flat_map element (take i xs) ++ l) (flat_map-cons element x [] ∙ append-nil (element x)) in
    one
    ∙ ap (λ (l : List ℕ). l ++ element x) so_far
    ∙ append_assoc out (head ++ flat_map element (take i xs)) (element x)
    ∙ ap (λ (l : List ℕ). out ++ l) (append_assoc head (flat_map element (take i xs)) (element x) ∙ ap (λ (l : List ℕ). head ++ l) (sym more))
