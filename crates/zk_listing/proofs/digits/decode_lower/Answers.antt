use Rattle.std.proofs.Common.{arith, ◌≡◌, ◌%◌, ℕ, sym, ◌∙◌, ap, length}
use Rattle.hex.specs.Hex.{IsBytes}
use Rattle.zk_listing.proofs.Rejected.{odd_spells_nothing, spells, spells_nothing}
use Rattle.zk_listing.proofs.Spelling.{written_all}
use Rattle.zk_listing.proofs.digits.decode_lower.Goals as goal

pub returns-then-decode_into-lt16-clause-bytes : goal.returns-then-decode_into-lt16-clause-bytes
returns-then-decode_into-lt16-clause-bytes c =
    let same : length c.decode_into.new.bytes ≡ length c.in_ok-bytes.bytes.items = c.decode_into.ensures.length ∙ ap length c.as_mut_slice.ensures.value in
    let whole : c.in_ok-bytes.bytes.len ≡ length c.in_ok-bytes.bytes.items = sym c.as_mut_slice.ensures.len ∙ ap length c.as_mut_slice.ensures.value in
    let fits : IsBytes c.decode_into.new.bytes = c.decode_into.ensures.fits in
    rw (written_all c.in_ok-bytes.bytes.len c.decode_into.new.bytes c.in_ok-bytes.bytes.items same whole)
    (spells c.decode_into.new.bytes c.args.digits.now fits (c.decode_into.ensures.spelled c.if-decode_into-lt16.true))

pub returns-else-decode_into-lt16-clause-none : goal.returns-else-decode_into-lt16-clause-none
returns-else-decode_into-lt16-clause-none c = λ _.
    let bad = c.decode_into.ensures.bad c.if-decode_into-lt16.false in
    spells_nothing c.args.digits.now bad.0 (omega (arith, c.if-digits-ne0.false)) bad.1 bad.2

pub returns-then-digits-ne0-clause-none : goal.returns-then-digits-ne0-clause-none
returns-then-digits-ne0-clause-none c = λ _. odd_spells_nothing c.args.digits.now (odd _ c.if-digits-ne0.true) where
  odd : (n : ℕ) → (n % 2 ≡ 0 → ⊥) → n % 2 ≡ 1
  odd n h = grind (arith)
