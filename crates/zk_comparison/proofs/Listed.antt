-- The findings, by number.
use Rattle.std.proofs.Common.{◌≡◌, ℕ, List, [], ◌∷◌, ◌++◌, length, map, take, sym, ap, ◌∙◌}
use Rattle.std.proofs.lemmas.List.{length-map, take-map}
use Rattle.zk_comparison.specs.Findings.{differing_of}
use Rattle.zk_comparison.specs.Pairs.{Both, both_of}
use Rattle.zk_comparison.specs.declared.finding.Finding.{Finding}
use Rattle.zk_comparison.specs.declared.finding.Finding.TheVariants.{Differences}
use Rattle.zk_comparison.specs.declared.pair.Pair.{Pair}

pub as_many : (pairs : List Pair) (all : List Both) → map both_of pairs ≡ all → length pairs ≡ length all
as_many pairs all e = sym (length-map pairs both_of) ∙ ap length e

first_ones : (n : ℕ) (pairs : List Pair) (all : List Both) → map both_of pairs ≡ all → map both_of (take n pairs) ≡ take n all
first_ones n pairs all e = sym (take-map both_of n pairs) ∙ ap (take n) e

-- the first differences, and the number of all
pub all_differing : (n : ℕ) (old mid new : List Finding) (pairs slice most : List Pair) (count : ℕ) (all : List Both) → map both_of pairs ≡ all → slice ≡ pairs → most ≡ take n slice → count ≡ length pairs → mid ≡ old ++ map differing_of (map both_of most) → new ≡ mid ++ Differences count ∷ [] → new ≡ old ++ map differing_of (take n all) ++ Differences (length all) ∷ []
all_differing n old mid new pairs slice most count all e s m c d h =
    let shown : map both_of most ≡ take n all = ap (map both_of) (m ∙ ap (take n) s) ∙ first_ones n pairs all e in
    let number : count ≡ length all = c ∙ as_many pairs all e in
    h
    ∙ ap (λ (l : List Finding). l ++ Differences count ∷ []) (d ∙ ap (λ (bs : List Both). old ++ map differing_of bs) shown)
    ∙ ap (λ k. (old ++ map differing_of (take n all)) ++ Differences k ∷ []) number
