-- Timeouts of sessions, in milliseconds: ZooKeeper Programmer's Guide, "ZooKeeper Sessions".
use Rattle.std.specs.Prelude.{ℤ, pos}
use Rattle.std.specs.Int.{int_max, int_min}

-- a session gets the timeout that it asks for, from 2 to 20 ticks of 2,000 milliseconds
abbrev pub clamp : ℤ → ℤ
clamp timeout = int_max (pos 4000) (int_min timeout (pos 40000))
