-- The events of an ask at server 1, and its reply, for a service over servers that run. Own;
-- deadlines are those of the ZooKeeper Programmer's Guide, "ZooKeeper Sessions".
use Rattle.std.specs.Prelude.{◌≡◌, ◌⊎◌, ℕ, ℤ, ◌+◌, ◌-◌, List, [], ◌∷◌, ◌++◌, length, slice_get, Some, Result, Ok, Err}
use Rattle.zab_model.specs.declared.event.Event.TheVariants.{Expire}
use Rattle.zk_line_protocol.specs.declared.ask.Ask.{Ask}
use Rattle.zk_line_protocol.specs.declared.told.Reply.{Reply}
use Rattle.zk_line_protocol.specs.declared.told.Reply.TheVariants as replies
use Rattle.zk_line_protocol.specs.declared.told.ServiceFault.{ServiceFault}
use Rattle.zk_line_protocol.specs.declared.told.Told.{Told}
use Rattle.zk_front.specs.Asks.{event_of, session_of, sought_by}
use Rattle.zk_front.specs.declared.reply_kind.ReplyKind.{ReplyKind}
use Rattle.zk_front.specs.declared.reply_kind.ReplyKind.TheVariants as seeks
use Rattle.zk_prepare.specs.Deadlines.{expired_at}
use Rattle.zk_model.specs.declared.answer.Answer.TheVariants.{Looked}
use Rattle.zk_model.specs.declared.event.Event.{Event}
use Rattle.zk_model.specs.declared.event.Event.TheVariants as events
use Rattle.zk_servers.specs.declared.record.Receipt.{Receipt}
use Rattle.zk_front.specs.Calling.{Calling, Calls}
use Rattle.zk_front.specs.Reading.{TellsEvents}
use Rattle.zk_front.specs.Keeping.{Keeping, KeepsOrNot, all_let_go, heard, keeping_of, keeps_on, ready, turn_of}
use Rattle.zk_front.specs.declared.session_table.SessionTable.{SessionTable}

-- ---- the events of an ask

-- an expired session is closed
abbrev pub expiry : ℕ → ℤ → ℤ → Event
expiry tag session now = events.World (Expire 1 tag session now)

-- each of them is closed, with a tag of its own, from this one on
abbrev pub expiries : ℕ → ℤ → List ℤ → List Event
expiries tag now [] = []
expiries tag now (session ∷ due) = expiry tag session now ∷ expiries (tag + 1) now due

-- and then the event of the ask happens
abbrev pub events_for : ℕ → ℤ → List ℤ → Ask → List Event
events_for tag now due ask = expiries tag now due ++ event_of ask (tag + length due) now ∷ []

-- ---- the reply

-- the reply to a read, and its transaction, are those of the receipt
abbrev pub TellsIn : Receipt → Reply → Type 0
TellsIn receipt (replies.Looked reply zxid) = (receipt.answer ≡ Ok (Looked reply)) × (receipt.zxid ≡ zxid)
TellsIn receipt reply = ⊥

-- those of the last receipt
abbrev pub TellsLast : List Receipt → Reply → Type 0
TellsLast receipts reply = (receipt : Receipt) × (slice_get receipts (length receipts - 1) ≡ Some receipt) × TellsIn receipt reply

-- the reply to a write is a result, that to a read its receipt's, and that to a sync that the
-- server has caught up
abbrev pub IsTold : ReplyKind → List Receipt → Reply → Type 0
IsTold seeks.Written receipts (replies.Wrote wrote) = Unit {0}
IsTold seeks.Looked receipts reply = TellsLast receipts reply
IsTold seeks.Caught receipts replies.Caught = Unit {0}
IsTold _ receipts reply = ⊥

-- ---- an ask

-- the calls of a service, and the sessions that it keeps
pub record Serving : Type 0 where
  pub calling : Calling
  pub keeping : Keeping

abbrev pub serving : Calling → SessionTable → Serving
serving calling clients = record { calling = calling; keeping = keeping_of clients }

-- each expired session is closed, and no longer kept
pub record Expires (now : ℤ) (due : List ℤ) (old new : Serving) : Type 0 where
  pub calls : Calls old.calling (expiries (old.calling.tag + 1) now due) new.calling
  pub tag : new.calling.tag ≡ old.calling.tag + length due
  pub left : new.keeping ≡ all_let_go due old.keeping

-- a prefix of them is closed and no longer kept, and no others
pub record Stops (now : ℤ) (due : List ℤ) (old new : Serving) : Type 0 where
  pub first : List ℤ
  pub rest : List ℤ
  pub parts : due ≡ first ++ rest
  pub calls : Calls old.calling (expiries (old.calling.tag + 1) now first) new.calling
  pub left : new.keeping ≡ all_let_go first old.keeping

-- The event of the ask does not happen, and its session's deadline has moved or not; or it happens,
-- and fails.
abbrev pub Misses : ℤ → Serving → Ask → Serving → Type 0
Misses now old ask new =
    (Calls old.calling [] new.calling × ((new.keeping ≡ old.keeping) ⊎ (new.keeping ≡ heard (session_of ask) now old.keeping)))
    ⊎ (Calls old.calling (event_of ask (old.calling.tag + 1) now ∷ []) new.calling × (new.keeping ≡ heard (session_of ask) now old.keeping))

-- An ask with a fault stops among the expired sessions; or before its event, when its session's
-- deadline has moved; or after its event.
abbrev pub IsCutShort : ℤ → List ℤ → Serving → Ask → Serving → Type 0
IsCutShort now due old ask new =
    Stops now due old new
    ⊎ (Calls old.calling (expiries (old.calling.tag + 1) now due) new.calling × (new.keeping ≡ ready now old.keeping ask))
    ⊎ (Calls old.calling (events_for (old.calling.tag + 1) now due ask) new.calling × KeepsOrNot (turn_of ask) now (ready now old.keeping ask) new.keeping)

-- The tags are those after the last one used: no call of the seat has them.
abbrev pub AsksAt : ℤ → List ℤ → Serving → Ask → Result Told ServiceFault → Serving → Type 0
AsksAt now due old ask (Ok told) new =
    Calls old.calling (events_for (old.calling.tag + 1) now due ask) new.calling
    × IsTold (sought_by ask) new.calling.receipts told.reply
    × TellsEvents (sought_by ask) ask new.calling.receipts told.events
    × (new.keeping ≡ keeps_on now old.keeping ask told.reply)
AsksAt now due old ask (Err fault) new = IsCutShort now due old ask new

-- at the clock's time, and with the sessions that are expired then
abbrev pub Asks : {C : Type 0} → (C → ℤ → C → Type 0) → C → C → Serving → Ask → Result Told ServiceFault → Serving → Type 0
Asks tells clock clock' old ask told new = (now : ℤ) × tells clock now clock' × AsksAt now (expired_at old.keeping.deadlines now) old ask told new
