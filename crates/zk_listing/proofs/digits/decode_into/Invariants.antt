use Rattle.std.proofs.Common.{◌≡◌, ◌<◌, ◌≤◌, ◌*◌, ℕ, take, length, slice_index}
use Rattle.hex.specs.Hex.{IsBytes, encode_lower}
use Rattle.zk_listing.specs.Digits.{IsBad}
use Rattle.zk_listing.proofs.digits.decode_into.Given as goal

abbrev pub invariant-pairs : goal.invariant-pairs
invariant-pairs l =
    (length l.bytes ≡ length l.fn.bytes)
    × IsBytes l.bytes
    × (l.greatest < 16 → encode_lower (take l.at l.bytes) ≡ take (2 * l.at) l.digits)
    × (16 ≤ l.greatest → (place : ℕ) × (place < length l.digits) × IsBad (slice_index l.digits place))
