-- Where a debugger starts, by what was found.
use Rattle.std.proofs.Common.{◌≡◌, ◌⊎◌, ℕ, ℤ, inl, inr, List, Option, None, Result, Ok, Err, Vec, Global, refl, subst}
use Rattle.zk_directory_state.specs.Histories.{AreIn}
use Rattle.zk_directory_state.specs.Logs.{IsUnread}
use Rattle.zk_directory_state.specs.declared.history.Shown.{Shown}
use Rattle.zk_directory_state.specs.declared.upto.Upto.{Upto}
use Rattle.zk_directory_state.specs.declared.upto.Upto.TheVariants.{Last, Zxid}
use Rattle.zk_directory_state.specs.Names.{log_zxid}
use Rattle.zk_directory_state.specs.declared.fault.HistoryFault.{HistoryFault}
use Rattle.zk_table.specs.declared.txn.Txn.{Txn}
use Rattle.zk_commands.specs.Later.{FindsLaterIn, LaterIn}
use Rattle.zk_commands.specs.Starts.{Continues, Directory, FindsShown, FindsStart, FromEarlier, HoldsAt, StartsWith, before}
use Rattle.zk_commands.specs.declared.start.Start.{Start}

-- ---- the state

pub no_last : (d : Directory) (fault : HistoryFault) → HoldsAt d Last (Err fault) → FindsShown d None (Err fault)
no_last d fault holds = (Err fault, holds, refl)

pub from_last : (d : Directory) (last : Shown) (zxid : ℤ) (earlier answer : Result Shown HistoryFault) → HoldsAt d Last (Ok last) → zxid ≡ before last.restored.table.state.last → HoldsAt d (Zxid zxid) earlier → FromEarlier d last earlier answer → FindsShown d None answer
from_last d last zxid earlier answer holds is holds_earlier from = (Ok last, holds, (earlier, subst (λ z. HoldsAt d (Zxid z) earlier) is holds_earlier, from))

-- ---- the transactions after it

pub starts_with : (names : Option (List (List ℕ))) (bytes : List ℕ → Option (List ℕ)) (shown : Shown) (logged : List ℤ) (later : Vec Txn Global) (start : Start) → AreIn log_zxid names logged → FindsLaterIn bytes logged shown.restored.position (Ok later) → start.base.state ≡ shown.restored.table.state → start.txns ≡ later.items → StartsWith names bytes shown (Ok start)
starts_with names bytes shown logged later start are_logs found base txns = record { later = later; continues = record { logged = logged; are_logs = are_logs; later = found }; base = base; txns = txns }

breaks_by : (names : Option (List (List ℕ))) (bytes : List ℕ → Option (List ℕ)) (shown : Shown) (logged : List ℤ) (fault : HistoryFault) → AreIn log_zxid names logged → (found : IsUnread fault ⊎ LaterIn bytes logged shown.restored.position (Err fault)) → StartsWith names bytes shown (Err fault)
breaks_by names bytes shown logged fault are_logs (inl unread) = inl unread
breaks_by names bytes shown logged fault are_logs (inr found) = inr (record { logged = logged; are_logs = are_logs; later = found })

pub breaks_with : (names : Option (List (List ℕ))) (bytes : List ℕ → Option (List ℕ)) (shown : Shown) (logged : List ℤ) (fault : HistoryFault) → AreIn log_zxid names logged → FindsLaterIn bytes logged shown.restored.position (Err fault) → StartsWith names bytes shown (Err fault)
breaks_with names bytes shown logged fault are_logs found = breaks_by names bytes shown logged fault are_logs found

-- ---- both

pub not_shown : (d : Directory) (from : Option Upto) (fault : HistoryFault) → FindsShown d from (Err fault) → FindsStart d from (Err fault)
not_shown d from fault none = inl none

pub started : (d : Directory) (from : Option Upto) (shown : Shown) (result : Result Start HistoryFault) → FindsShown d from (Ok shown) → StartsWith d.logs d.log_bytes shown result → FindsStart d from result
started d from shown (Ok start) found starts = (shown, found, starts)
started d from shown (Err fault) found starts = inr (shown, found, starts)
