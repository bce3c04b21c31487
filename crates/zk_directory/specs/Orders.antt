-- From which log on a directory is read.
use Rattle.std.specs.Prelude.{ℕ, ◌-◌, ℤ, pos, ◌-ℤ◌, Bool, ◌||◌, int_le, List}
use Rattle.std.specs.Ordering.{int_eq}
use Rattle.std.specs.List.{count_by}

-- a name at most base + 1
abbrev pub may_hold_next : ℤ → ℤ → Bool
may_hold_next base zxid = int_le zxid base || int_eq (zxid -ℤ pos 1) base

-- the place of the greatest such name, in names that rise; else the first
abbrev pub first_log : ℤ → List ℤ → ℕ
first_log base zxids = count_by (may_hold_next base) zxids - 1
