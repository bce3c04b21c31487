-- Where each server weighs 1, a set weighs as much as it has servers.
use Rattle.std.proofs.Common.{◌≡◌, ℕ, zero, suc, ◌+◌, ◌*◌, ◌==◌, ◌&&◌, nat_lt, Bool, true, false, cond, List, [], ◌∷◌, length, replicate, refl, ap, ◌∙◌, arith}
use Rattle.std.specs.List.{sum}
use Rattle.std.proofs.lemmas.Bool.Decides.{nat_tests}
use Rattle.std.proofs.lemmas.List.{length-replicate}
use Rattle.std.proofs.lemmas.List.Folds.{sum_by-replicate}
use Rattle.std.proofs.lemmas.List.Sums.{sum_by-cons}
use Rattle.zab_epoch.specs.Quorums.{marked, is_majority, weight_of, is_heavy}

marked-cons : (mark : Bool) (marks : List Bool) → marked (mark ∷ marks) ≡ cond mark 1 0 + marked marks
marked-cons mark marks = sum_by-cons (λ m. cond m 1 0) mark marks

weight_is_marked : (n : ℕ) (marks : List Bool) → length marks ≡ n → weight_of (replicate n 1) marks ≡ marked marks
weight_is_marked zero [] e = refl
weight_is_marked zero (m ∷ marks) e = absurd (omega arith)
weight_is_marked (suc n) [] e = absurd (omega arith)
weight_is_marked (suc n) (true ∷ marks) e = omega (arith, marked-cons true marks, weight_is_marked n marks (omega arith))
weight_is_marked (suc n) (false ∷ marks) e = omega (arith, marked-cons false marks, weight_is_marked n marks (omega arith))

and_where : (p x y : Bool) → (p ≡ true → x ≡ y) → (p && x) ≡ (p && y)
and_where true x y same = same refl
and_where false x y same = refl

pub heavy_is_majority : (servers : ℕ) (marks : List Bool) → is_heavy (replicate servers 1) marks ≡ is_majority servers marks
heavy_is_majority servers marks =
    ap (λ n. (length marks == n) && nat_lt (sum (replicate servers 1)) (2 * weight_of (replicate servers 1) marks)) (length-replicate servers 1)
    ∙ and_where (length marks == servers) (nat_lt (sum (replicate servers 1)) (2 * weight_of (replicate servers 1) marks)) (nat_lt servers (2 * marked marks)) (λ all.
    let count : length marks ≡ servers = grind (arith, nat_tests) in
    let whole : sum (replicate servers 1) ≡ servers = omega (arith, sum_by-replicate (λ x. x) servers 1) in
    ap (λ s. nat_lt s (2 * weight_of (replicate servers 1) marks)) whole
    ∙ ap (λ w. nat_lt servers (2 * w)) (weight_is_marked servers marks count))
