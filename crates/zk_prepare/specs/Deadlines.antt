-- Deadlines of sessions: ZooKeeper Programmer's Guide, "ZooKeeper Sessions". All are milliseconds.
use Rattle.std.specs.Prelude.{ℕ, ℤ, ◌+ℤ◌, Bool, List, map, filter, int_le}
use Rattle.std.specs.Int.{w64, cast_unsigned, cast_signed, saturate_signed}
use Rattle.std.specs.Ordering.{nat_cmp}
use Rattle.std.specs.FinMap.{FinMap, entries, insert, remove}

-- Sessions to deadlines. The key is the unsigned number of the session's 64 bits, which its sixteen
-- digits write.
abbrev pub DeadlineMap : Type 0
DeadlineMap = FinMap nat_cmp ℤ

-- this much later, or the nearest number of 64 bits
abbrev pub deadline_of : ℤ → ℤ → ℤ
deadline_of now timeout = saturate_signed w64 (now +ℤ timeout)

abbrev pub touched : DeadlineMap → ℤ → ℤ → ℤ → DeadlineMap
touched deadlines session timeout now = insert deadlines (cast_unsigned w64 session) (deadline_of now timeout)

abbrev pub forgotten : DeadlineMap → ℤ → DeadlineMap
forgotten deadlines session = remove deadlines (cast_unsigned w64 session)

-- a session has expired at its very deadline
abbrev pub has_come : ℤ → ℕ × ℤ → Bool
has_come now entry = int_le entry.1 now

-- the expired sessions, in the order of their digits
abbrev pub expired_at : DeadlineMap → ℤ → List ℤ
expired_at deadlines now = map (λ e. cast_signed w64 e.0) (filter (has_come now) (entries deadlines))
