-- Where a debugger of a directory starts.
use Rattle.std.specs.Prelude.{◌≡◌, ◌⊎◌, ℤ, pos, ◌-ℤ◌, int_lt, List, ℕ, Option, Some, None, Result, Ok, Err, Vec, if◌then◌else◌}
use Rattle.std.specs.Global.{Global}
use Rattle.zk_directory_state.specs.Histories.{AreIn, Holds}
use Rattle.zk_directory_state.specs.Logs.{IsUnread}
use Rattle.zk_directory_state.specs.declared.history.Origin.{Origin}
use Rattle.zk_directory_state.specs.declared.history.Shown.{Shown}
use Rattle.zk_directory_state.specs.declared.upto.Upto.{Upto}
use Rattle.zk_directory_state.specs.declared.upto.Upto.TheVariants.{Last, Zxid}
use Rattle.zk_directory_state.specs.Names.{log_zxid}
use Rattle.zk_directory_state.specs.declared.fault.HistoryFault.{HistoryFault}
use Rattle.zk_directory_state.specs.declared.fault.HistoryFault.TheVariants as faults
use Rattle.zk_table.specs.declared.txn.Txn.{Txn}
use Rattle.zk_commands.specs.Later.{LaterIn}
use Rattle.zk_commands.specs.declared.start.Start.{Start}

-- the names and the bytes of a directory's files, where they are known
pub record Directory : Type 0 where
  pub snapshots : Option (List (List ℕ))
  pub snapshot_bytes : List ℕ → Option (List ℕ)
  pub logs : Option (List (List ℕ))
  pub log_bytes : List ℕ → Option (List ℕ)

-- the directory's state up to a zxid, or its last one
abbrev pub HoldsAt : Directory → Upto → Result Shown HistoryFault → Type 0
HoldsAt d upto answer = Holds d.snapshots d.snapshot_bytes d.logs d.log_bytes upto answer

-- ---- the state

-- from which zxid on the snapshot is exact
abbrev pub exact_of : Option Origin → ℤ
exact_of None = pos 0
exact_of (Some origin) = origin.exact.zxid

abbrev pub before : ℤ → ℤ
before zxid = if int_lt (pos 0) zxid then zxid -ℤ pos 1 else pos 0

-- by the state before the last one: where its snapshot is exact; without one the debugger starts at the end
abbrev pub FromEarlier : Directory → Shown → Result Shown HistoryFault → Result Shown HistoryFault → Type 0
FromEarlier d last (Ok earlier) answer = HoldsAt d (Zxid (exact_of earlier.origin)) answer
FromEarlier d last (Err faults.NoMemory) answer = answer ≡ Err faults.NoMemory
FromEarlier d last (Err fault) answer = answer ≡ Ok last

abbrev pub FromLast : Directory → Result Shown HistoryFault → Result Shown HistoryFault → Type 0
FromLast d (Ok last) answer = (earlier : Result Shown HistoryFault) × HoldsAt d (Zxid (before last.restored.table.state.last)) earlier × FromEarlier d last earlier answer
FromLast d (Err fault) answer = answer ≡ Err fault

-- after the transaction that is asked for, or else where the latest snapshot is exact that has a
-- transaction after it
abbrev pub FindsShown : Directory → Option Upto → Result Shown HistoryFault → Type 0
FindsShown d (Some from) answer = HoldsAt d from answer
FindsShown d None answer = (last : Result Shown HistoryFault) × HoldsAt d Last last × FromLast d last answer

-- ---- the state and the transactions after it

-- in the logs that the folder names
pub record Continues (names : Option (List (List ℕ))) (bytes : List ℕ → Option (List ℕ)) (shown : Shown) (answer : Result (Vec Txn Global) HistoryFault) : Type 0 where
  pub logged : List ℤ
  pub are_logs : AreIn log_zxid names logged
  pub later : LaterIn bytes logged shown.restored.position answer

pub record IsStart (names : Option (List (List ℕ))) (bytes : List ℕ → Option (List ℕ)) (shown : Shown) (start : Start) : Type 0 where
  pub later : Vec Txn Global
  pub continues : Continues names bytes shown (Ok later)
  pub base : start.base.state ≡ shown.restored.table.state
  pub txns : start.txns ≡ later.items

-- unless a file could not be read
abbrev pub StartsWith : Option (List (List ℕ)) → (List ℕ → Option (List ℕ)) → Shown → Result Start HistoryFault → Type 0
StartsWith names bytes shown (Ok start) = IsStart names bytes shown start
StartsWith names bytes shown (Err fault) = IsUnread fault ⊎ Continues names bytes shown (Err fault)

-- there is no state to start at, or from there
abbrev pub FindsStart : Directory → Option Upto → Result Start HistoryFault → Type 0
FindsStart d from (Ok start) = (shown : Shown) × FindsShown d from (Ok shown) × StartsWith d.logs d.log_bytes shown (Ok start)
FindsStart d from (Err fault) = FindsShown d from (Err fault) ⊎ ((shown : Shown) × FindsShown d from (Ok shown) × StartsWith d.logs d.log_bytes shown (Err fault))
