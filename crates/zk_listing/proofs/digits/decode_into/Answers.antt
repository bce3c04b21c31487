use Rattle.std.proofs.Common.{◌≡◌, arith, nat_cmp, refl, ◌∙◌, ℕ, ◌+◌, ◌*◌, ◌<◌, ◌≤◌, ◌⊎◌, inl, inr, length, slice_index}
use Rattle.std.specs.Prelude.{max}
use Rattle.std.specs.Ordering.{ord_max}
use Rattle.std.proofs.lemmas.Bool.{cases_lt}
use Rattle.zk_listing.specs.Digits.{IsBad}
use Rattle.std.proofs.lemmas.List.{length-set}
use Rattle.hex.specs.Hex.{encode_with}
use Rattle.zk_listing.proofs.Spelling.{fits_set, spelled_more, spelled_all}
use Rattle.zk_listing.proofs.digits.decode_into.Goals as goal

pub pairs-init : goal.pairs-init
unfolding encode_with
pairs-init c = (refl, λ i. (c.type_inv.bytes i).fits, λ _. refl, λ above. absurd (omega (arith, above)))

below_too : (a b greater : ℕ) → greater ≡ ord_max nat_cmp a b → a < 16 → b < 16 → greater < 16
below_too a b greater is first second = grind (arith)

other_above : (a b greater : ℕ) → greater ≡ max a b → a < 16 → 16 ≤ greater → 16 ≤ b
other_above a b greater is first above = grind (arith)

-- a byte is bad: an earlier one, or one of the two
bad_of : (c : goal.After-max-greatest) → (c.pairs.greatest < 16) ⊎ (16 ≤ c.pairs.greatest) → (c.value_of-high.result < 16) ⊎ (16 ≤ c.value_of-high.result) → 16 ≤ c.max-greatest.result → (place : ℕ) × (place < length c.args.digits.now) × IsBad (slice_index c.args.digits.now place)
bad_of c (inr earlier) _ above = c.pairs.invariant.3 earlier
bad_of c (inl before) (inr high) above = (2 * c.pairs.at, omega (arith, c.requires, c.pairs.invariant.0, c.pairs-test.true), c.value_of-high.ensures.bad high)
bad_of c (inl before) (inl high) above =
    let first : c.max.result < 16 = below_too c.pairs.greatest c.value_of-high.result c.max.result c.max.ensures before high in
    let low : 16 ≤ c.value_of-low.result = other_above c.max.result c.value_of-low.result c.max-greatest.result c.max-greatest.ensures first above in
    (2 * c.pairs.at + 1, omega (arith, c.requires, c.pairs.invariant.0, c.pairs-test.true), c.value_of-low.ensures.bad low)

pub pairs-preserved : goal.pairs-preserved
pairs-preserved c = (
  length-set c.pairs.bytes c.pairs.at _ ∙ c.pairs.invariant.0,
  fits_set c.pairs.bytes c.pairs.at _ (omega (arith)) c.pairs.invariant.1,
  λ below.
      let low_below : c.value_of-low.result < 16 = grind (arith) in
      let first_below : c.max.result < 16 = grind (arith) in
      let high_below : c.value_of-high.result < 16 = grind (arith) in
      let before : c.pairs.greatest < 16 = grind (arith) in
      spelled_more c.args.digits.now c.pairs.bytes c.pairs.at c.value_of-high.result c.value_of-low.result _
      (omega (arith, c.requires, c.pairs.invariant.0, c.pairs-test.true)) (omega (arith, c.pairs.invariant.0, c.pairs-test.true)) high_below low_below (omega arith)
      (c.value_of-high.ensures.digit high_below) (c.value_of-low.ensures.digit low_below) (c.pairs.invariant.2 before),
  λ above. bad_of c (cases_lt c.pairs.greatest 16) (cases_lt c.value_of-high.result 16) above,
)

pub returns-clause-spelled : goal.returns-clause-spelled
returns-clause-spelled c = λ below.
    spelled_all c.args.digits.now c.pairs.bytes c.pairs.at (omega (arith, c.requires, c.pairs.invariant.0)) (omega (arith, c.pairs.invariant.0, c.pairs-test.false)) (c.pairs.invariant.2 below)

pub returns-clause-bad : goal.returns-clause-bad
returns-clause-bad c = c.pairs.invariant.3

pub returns-clause-fits : goal.returns-clause-fits
returns-clause-fits c = c.pairs.invariant.1
