-- A text, once for each of others.
use Rattle.std.proofs.Common.{◌≡◌, ℕ, ◌+◌, ◌<◌, List, [], ◌∷◌, ◌++◌, length, drop, map, sym, ap, ◌∙◌, append_assoc}
use Rattle.std.proofs.lemmas.List.{drop_more, map-append}
use Rattle.std.specs.Borrow.{Bor}

abbrev pub texts : List (Bor (List ℕ)) → List (List ℕ)
texts all = map (λ (text : Bor (List ℕ)). text.now) all

abbrev pub each : List ℕ → List (List ℕ) → List (List ℕ)
each digits others = map (λ (other : List ℕ). digits) others

pub once_more : (digits : Bor (List ℕ)) (xs keys new : List (Bor (List ℕ))) (i : ℕ) → i < length xs → new ≡ keys ++ digits ∷ [] → texts new ++ each digits.now (texts (drop (i + 1) xs)) ≡ texts keys ++ each digits.now (texts (drop i xs))
once_more digits xs keys new i lt e =
    let rest = each digits.now (texts (drop (i + 1) xs)) in
    ap (λ l. texts l ++ rest) e
    ∙ ap (λ l. l ++ rest) (map-append (λ (text : Bor (List ℕ)). text.now) keys (digits ∷ []))
    ∙ append_assoc (texts keys) (digits.now ∷ []) rest
    ∙ ap (λ l. texts keys ++ each digits.now (texts l)) (sym (drop_more xs i digits lt))
