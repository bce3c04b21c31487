-- Two sets with more than half of the weight share a server.
use Rattle.std.proofs.Common.{◌≡◌, ℕ, ◌+◌, ◌*◌, ◌<◌, ◌≤◌, ◌⊎◌, inl, inr, Bool, true, false, List, [], ◌∷◌, length, refl, arith, lit≤}
use Rattle.std.specs.List.{sum}
use Rattle.std.proofs.lemmas.Bool.Decides.{nat_tests}
use Rattle.std.proofs.lemmas.List.Sums.{sum_by-cons}
use Rattle.zab_epoch.specs.Majorities.{shares_later}
use Rattle.zab_epoch.specs.Quorums.{SharesServer, IsQuorumSystem, weight_of, is_heavy}

sum-cons : (w : ℕ) (ws : List ℕ) → sum (w ∷ ws) ≡ w + sum ws
sum-cons w ws = sum_by-cons (λ x. x) w ws

-- two sets share a server, or weigh together at most the total
share_or_light : (ws : List ℕ) (a b : List Bool) → length a ≡ length ws → length b ≡ length ws → SharesServer a b ⊎ (weight_of ws a + weight_of ws b ≤ sum ws)
share_or_light [] [] [] e f = inr (lit≤ tt)
share_or_light [] [] (n ∷ b) e f = absurd (omega arith)
share_or_light [] (m ∷ a) b e f = absurd (omega arith)
share_or_light (w ∷ ws) [] b e f = absurd (omega arith)
share_or_light (w ∷ ws) (m ∷ a) [] e f = absurd (omega arith)
share_or_light (w ∷ ws) (true ∷ a) (true ∷ b) e f = inl (0, refl, refl)
share_or_light (w ∷ ws) (true ∷ a) (false ∷ b) e f =
    elim (share_or_light ws a b (omega arith) (omega arith)) [
      | inl s ↦ inl (shares_later true false a b s)
      | inr few ↦ inr (omega (arith, sum-cons w ws))
    ]
share_or_light (w ∷ ws) (false ∷ a) (true ∷ b) e f =
    elim (share_or_light ws a b (omega arith) (omega arith)) [
      | inl s ↦ inl (shares_later false true a b s)
      | inr few ↦ inr (omega (arith, sum-cons w ws))
    ]
share_or_light (w ∷ ws) (false ∷ a) (false ∷ b) e f =
    elim (share_or_light ws a b (omega arith) (omega arith)) [
      | inl s ↦ inl (shares_later false false a b s)
      | inr few ↦ inr (omega (arith, sum-cons w ws))
    ]

pub heavy_share : (weights : List ℕ) → IsQuorumSystem (is_heavy weights)
heavy_share ws a b p q =
    let all_a : length a ≡ length ws = grind (arith, nat_tests) in
    let all_b : length b ≡ length ws = grind (arith, nat_tests) in
    let many_a : sum ws < 2 * weight_of ws a = grind (arith, nat_tests) in
    let many_b : sum ws < 2 * weight_of ws b = grind (arith, nat_tests) in
    elim (share_or_light ws a b all_a all_b) [ inl shared ↦ shared | inr few ↦ absurd (omega arith) ]
