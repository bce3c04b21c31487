-- Zxids that follow one another. ZooKeeper Internals, "Guarantees, Properties, and Definitions": an
-- epoch of 32 bits, and a counter of 32 bits that begins with 1 in each epoch.
use Rattle.std.specs.Prelude.{ℕ, ◌/◌, ◌%◌, ℤ, pos, ◌-ℤ◌, Bool, false, ◌&&◌, ◌||◌, nat_le, nat_lt, nat_eq, int_le, if◌then◌else◌}
use Rattle.std.specs.Int.{w64, cast_unsigned}
use Rattle.std.specs.Ordering.{int_eq}

abbrev pub epoch_of : ℤ → ℕ
epoch_of zxid = cast_unsigned w64 zxid / 4294967296

abbrev pub counter_of : ℤ → ℕ
counter_of zxid = cast_unsigned w64 zxid % 4294967296

-- above it, and the next of its epoch or the first of a later one
abbrev pub continues : ℤ → ℤ → Bool
continues before zxid = if int_le zxid before then false else (int_eq (zxid -ℤ pos 1) before || (nat_eq (counter_of zxid) 1 && nat_lt (epoch_of before) (epoch_of zxid)))

-- the first entry of a whole history: of epoch 1, or of the epoch 0 of a server that is alone. A later
-- epoch may be the first in which anything was written, but its files do not show that.
abbrev pub starts_history : ℤ → Bool
starts_history zxid = nat_eq (counter_of zxid) 1 && nat_le (epoch_of zxid) 1
