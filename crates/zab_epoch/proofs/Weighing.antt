-- A step of the sum over the servers of a set.
use Rattle.std.proofs.Common.{◌≡◌, ℕ, ◌+◌, ◌<◌, Bool, true, false, List, ◌∷◌, length, get_or, drop, ap, ◌∙◌}
use Rattle.std.proofs.lemmas.List.{drop_more}
use Rattle.zab_epoch.specs.Quorums.{weight_of}

at_place : (ws : List ℕ) (marks : List Bool) (i : ℕ) → i < length ws → i < length marks → weight_of (drop i ws) (drop i marks) ≡ weight_of (get_or ws i 0 ∷ drop (i + 1) ws) (get_or marks i false ∷ drop (i + 1) marks)
at_place ws marks i in_weights in_marks =
    ap (λ l. weight_of l (drop i marks)) (drop_more ws i 0 in_weights)
    ∙ ap (weight_of (get_or ws i 0 ∷ drop (i + 1) ws)) (drop_more marks i false in_marks)

pub is_in : (ws : List ℕ) (marks : List Bool) (i : ℕ) → i < length ws → i < length marks → get_or marks i false ≡ true → weight_of (drop i ws) (drop i marks) ≡ get_or ws i 0 + weight_of (drop (i + 1) ws) (drop (i + 1) marks)
is_in ws marks i in_weights in_marks marked =
    at_place ws marks i in_weights in_marks
    ∙ ap (λ m. weight_of (get_or ws i 0 ∷ drop (i + 1) ws) (m ∷ drop (i + 1) marks)) marked

pub is_out : (ws : List ℕ) (marks : List Bool) (i : ℕ) → i < length ws → i < length marks → get_or marks i false ≡ false → weight_of (drop i ws) (drop i marks) ≡ weight_of (drop (i + 1) ws) (drop (i + 1) marks)
is_out ws marks i in_weights in_marks marked =
    at_place ws marks i in_weights in_marks
    ∙ ap (λ m. weight_of (get_or ws i 0 ∷ drop (i + 1) ws) (m ∷ drop (i + 1) marks)) marked
