-- The transactions between two zxids or times, both included.
use Rattle.std.specs.Prelude.{Bool, true, ◌&&◌, int_le, Option, Some, None}
use Rattle.zk_directory_state.specs.declared.range.Bound.{Bound}
use Rattle.zk_directory_state.specs.declared.range.Bound.TheVariants.{Zxid, Time}
use Rattle.zk_directory_state.specs.declared.range.Range.{Range}
use Rattle.zk_table.specs.declared.txn.Txn.{Txn}

abbrev pub is_from : Option Bound → Txn → Bool
is_from None txn = true
is_from (Some (Zxid zxid)) txn = int_le zxid txn.zxid
is_from (Some (Time time)) txn = int_le time txn.time

abbrev pub is_to : Option Bound → Txn → Bool
is_to None txn = true
is_to (Some (Zxid zxid)) txn = int_le txn.zxid zxid
is_to (Some (Time time)) txn = int_le txn.time time

abbrev pub is_in : Range → Txn → Bool
is_in range txn = is_from range.from txn && is_to range.to txn

-- all transactions
abbrev pub unbounded : Range
unbounded = record { from = None; to = None }
