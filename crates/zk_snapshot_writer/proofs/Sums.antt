-- The sums of bytes that are added a part at a time.
use Rattle.std.proofs.Common.{◌≡◌, ℕ, ◌+◌, ◌-◌, ◌*◌, ◌%◌, List, ◌++◌, length, refl, sym, ap, ◌∙◌, arith}
use Rattle.std.proofs.lemmas.Nat.{mul-mod_first}
use Rattle.zk_records.specs.Checksum.{sum_one, sum_two}
use Rattle.zk_records.specs.Lanes.{weighted_sum}
use Rattle.zk_records.proofs.SumLaws.{sum_one-reduced, sum_two-reduced, sum_two-weighted}
use Rattle.zk_snapshot_writer.specs.Checksums.{after}
use Rattle.zk_snapshot_writer.specs.declared.checksum.Checksum.{Checksum}

-- bytes added in two parts
pub after-append : (sums : Checksum) (xs ys : List ℕ) → after sums (xs ++ ys) ≡ after (after sums xs) ys
after-append sums xs ys =
    let one = sum_one-reduced 65521 sums.first (after sums xs).first xs ys refl in
    let two = sum_two-reduced 65521 sums.first sums.second (after sums xs).first (after sums xs).second xs ys refl refl in
    rw (one, two) refl

reduced : (b p l t len w : ℕ) → p % 65521 ≡ l % 65521 → t ≡ (len + w) % 65521 → (b + p + t + (65521 - len % 65521)) % 65521 ≡ (b + l + w) % 65521
reduced b p l t len w product comes = omega (arith, product, comes)

-- the second sum after bytes whose own second sum is known
pub second_after : (a b comes : ℕ) (xs : List ℕ) → comes ≡ sum_two 1 0 xs % 65521 → (b + length xs % 65521 * a + comes + (65521 - length xs % 65521)) % 65521 ≡ sum_two a b xs % 65521
second_after a b comes xs e =
    let own : comes ≡ (length xs + weighted_sum xs) % 65521 = e ∙ ap (λ (n : ℕ). n % 65521) (sum_two-weighted 1 0 xs ∙ omega arith) in
    reduced b (length xs % 65521 * a) (length xs * a) comes (length xs) (weighted_sum xs) (mul-mod_first (length xs) a 65521) own
    ∙ ap (λ (n : ℕ). n % 65521) (sym (sum_two-weighted a b xs))
