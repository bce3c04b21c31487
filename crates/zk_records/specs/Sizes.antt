-- Numbers of bytes in a `u64`.
use Rattle.std.specs.Prelude.{ℕ, ◌-◌, ◌^◌, List, length, min}

-- a number, at most the greatest `u64`
abbrev pub capped : ℕ → ℕ
capped n = min n (2 ^ 64 - 1)

abbrev pub size_of : List ℕ → ℕ
size_of bytes = capped (length bytes)
