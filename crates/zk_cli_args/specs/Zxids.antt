-- A zxid in two forms: its sixteen digits, or `0x` and fewer, as ZooKeeper's own messages have them.
use Rattle.std.specs.Prelude.{ℕ, ◌-◌, ◌||◌, nat_eq, nat_lt, List, ◌++◌, length, take, drop, replicate, Option, Some, None, if◌then◌else◌, codes}
use Rattle.std.specs.Str.{bytes_eq}

-- what follows `0x`
abbrev pub digits_in : List ℕ → Option (List ℕ)
digits_in word = if bytes_eq (take 2 word) (codes "0x") then Some (drop 2 word) else None

-- zeros before digits make sixteen
abbrev pub padded_by : List ℕ → Option (List ℕ) → List ℕ
padded_by word None = word
padded_by word (Some digits) = if nat_eq (length digits) 0 || nat_lt 16 (length digits) then word else replicate (16 - length digits) 48 ++ digits

-- `0x2a4` as sixteen digits; any other word as it is
unfoldable pub padded : List ℕ → List ℕ
padded word = padded_by word (digits_in word)
