-- One more, of which all hold.
use Rattle.std.proofs.Common.{◌≡◌, ℕ, ◌<◌, All, List, [], ◌∷◌, ◌++◌, length, sym, subst, arith}
use Rattle.std.proofs.lemmas.List.Elements.{All-append}
use lib.ListN.{get_or}

pub all_push : {X : Type 0} (P : X → Type 0) (xs : List X) (x : X) → All P xs → P x → All P (xs ++ x ∷ [])
all_push P xs x all is =
    All-append P xs (x ∷ []) all (λ k d below.
    let first : k ≡ 0 = omega (arith, below) in
    subst (λ n. P (get_or (x ∷ []) n d)) (sym first) is)
