-- The sessions that a service keeps, and their deadlines: ZooKeeper Programmer's Guide, "ZooKeeper
-- Sessions". All times are milliseconds.
use Rattle.std.specs.Prelude.{◌≡◌, ◌⊎◌, ℤ, pos, List, [], ◌∷◌, ◌++◌, Option, Some, None, if◌then◌else◌}
use Rattle.std.specs.FinMap as finite
use Rattle.std.specs.FinMap.{FinMap}
use Rattle.std.specs.Ordering.{int_cmp, int_eq}
use Rattle.zk_line_protocol.specs.declared.ask.Ask.{Ask}
use Rattle.zk_line_protocol.specs.declared.ask.Ask.TheVariants as asks
use Rattle.zk_line_protocol.specs.declared.told.Reply.{Reply}
use Rattle.zk_line_protocol.specs.declared.told.Reply.TheVariants as replies
use Rattle.zk_requests.specs.declared.call.Request.TheVariants as requests
use Rattle.zk_requests.specs.Timeouts.{clamp}
use Rattle.zk_table.specs.declared.result.TxnResult.{TxnResult}
use Rattle.zk_prepare.specs.Deadlines.{DeadlineMap, touched, forgotten, expired_at}
use Rattle.zk_front.specs.Asks.{session_of}
use Rattle.zk_front.specs.declared.session_table.SessionTable.{SessionTable}
use Rattle.zk_front.specs.declared.session_effect.SessionEffect.{SessionEffect}
use Rattle.zk_front.specs.declared.session_effect.SessionEffect.TheVariants as turns

-- the timeout of each session that is kept, and the deadlines
pub record Keeping : Type 0 where
  pub timeouts : FinMap int_cmp ℤ
  pub deadlines : DeadlineMap

abbrev pub keeping_of : SessionTable → Keeping
keeping_of clients = record { timeouts = finite.from_entries clients.timeouts.entries; deadlines = clients.tracker }

abbrev pub none_kept : Keeping
none_kept = record { timeouts = finite.empty; deadlines = finite.empty }

-- ---- one session

abbrev pub heard_by : Option ℤ → ℤ → ℤ → DeadlineMap → DeadlineMap
heard_by None session now deadlines = deadlines
heard_by (Some timeout) session now deadlines = touched deadlines session timeout now

-- a request arrived: if the session is kept, its deadline is one timeout later
abbrev pub heard : ℤ → ℤ → Keeping → Keeping
heard session now it = record { timeouts = it.timeouts; deadlines = heard_by (finite.get it.timeouts session) session now it.deadlines }

-- it is kept from now on
abbrev pub kept : ℤ → ℤ → ℤ → Keeping → Keeping
kept session timeout now it = record { timeouts = finite.insert it.timeouts session timeout; deadlines = touched it.deadlines session timeout now }

-- it has a deadline, and is not kept
abbrev pub due_once : ℤ → ℤ → ℤ → Keeping → Keeping
due_once session timeout now it = record { timeouts = it.timeouts; deadlines = touched it.deadlines session timeout now }

-- it is no longer kept
abbrev pub let_go : ℤ → Keeping → Keeping
let_go session it = record { timeouts = finite.remove it.timeouts session; deadlines = forgotten it.deadlines session }

-- they are all no longer kept
abbrev pub all_let_go : List ℤ → Keeping → Keeping
all_let_go [] it = it
all_let_go (session ∷ due) it = all_let_go due (let_go session it)

-- ---- an ask

-- the effect on sessions, if the ask succeeds
abbrev pub turn_of : Ask → SessionEffect
turn_of (asks.Write session cxid auths (requests.OpenSession timeout)) = turns.Opens timeout
turn_of (asks.Write session cxid auths requests.CloseSession) = turns.Closes
turn_of ask = turns.Neither

-- A successful write: a session that it opened, with the transaction's number, is kept, and one
-- that it closed is no longer kept.
abbrev pub settled_by : SessionEffect → ℤ → ℤ → TxnResult → Keeping → Keeping
settled_by (turns.Opens timeout) session now wrote it = if int_eq wrote.err (pos 0) then kept wrote.zxid (clamp timeout) now it else it
settled_by turns.Closes session now wrote it = if int_eq wrote.err (pos 0) then let_go session it else it
settled_by turns.Neither session now wrote it = it

abbrev pub settled : SessionEffect → ℤ → ℤ → Reply → Keeping → Keeping
settled turn session now (replies.Wrote wrote) it = settled_by turn session now wrote it
settled turn session now (replies.Looked reply zxid) it = it
settled turn session now replies.Caught it = it

-- the expired sessions are no longer kept, and then the request of the ask's session arrived
abbrev pub ready : ℤ → Keeping → Ask → Keeping
ready now it ask = heard (session_of ask) now (all_let_go (expired_at it.deadlines now) it)

-- the sessions after an ask with a reply
abbrev pub keeps_on : ℤ → Keeping → Ask → Reply → Keeping
keeps_on now it ask reply = settled (turn_of ask) (session_of ask) now reply (ready now it ask)

-- after an ask with a fault: a session that it opened has a deadline and is not kept, or has
-- neither
abbrev pub KeepsOrNot : SessionEffect → ℤ → Keeping → Keeping → Type 0
KeepsOrNot (turns.Opens timeout) now old new = (new ≡ old) ⊎ ((session : ℤ) × (new ≡ due_once session (clamp timeout) now old))
KeepsOrNot turns.Closes now old new = new ≡ old
KeepsOrNot turns.Neither now old new = new ≡ old
