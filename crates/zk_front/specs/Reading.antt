-- A read's reply, and the events that come with it. ZooKeeper Programmer's Guide, "ZooKeeper
-- Watches": the client gets the events that fired before the read, and later those that fired after
-- it. No event overtakes the reply to the read that set its watch.
use Rattle.std.specs.Prelude.{◌≡◌, ℕ, ℤ, List, [], ◌∷◌, ◌++◌, Option, Some, None}
use Rattle.zk_servers.specs.Looking.{IsToldBefore}
use Rattle.zk_servers.specs.declared.record.Receipt.{Receipt}
use Rattle.zk_line_protocol.specs.declared.ask.Ask.{Ask}
use Rattle.zk_ensemble.specs.declared.outcome.Mark.{Mark}
use Rattle.zk_ensemble.specs.declared.outcome.Outcome.{Outcome}
use Rattle.zk_machine.specs.declared.change.Change.{Change}
use Rattle.zk_model.specs.declared.event.Event.{Event}
use Rattle.zk_front.specs.Asks.{event_of, session_of}
use Rattle.zk_front.specs.declared.reply_kind.ReplyKind.{ReplyKind}
use Rattle.zk_front.specs.declared.reply_kind.ReplyKind.TheVariants as seeks

-- the last receipt is a read's, which happened at server 1 with this outcome: that of the ensemble
-- right before it
pub record IsRead (event : Event) (tag : ℕ) (session : ℤ) (receipts : List Receipt) (outcome : Outcome) : Type 0 where
  pub earlier : List Receipt
  pub receipt : Receipt
  pub last : receipts ≡ earlier ++ receipt ∷ []
  pub from : Mark
  pub told : IsToldBefore event 1 tag session from receipt outcome

-- a read has an outcome
abbrev pub IsReadBy : ReplyKind → Event → ℕ → ℤ → List Receipt → Option Outcome → Type 0
IsReadBy seeks.Looked event tag session receipts (Some outcome) = IsRead event tag session receipts outcome
IsReadBy seeks.Looked event tag session receipts None = ⊥
IsReadBy seeks.Written event tag session receipts outcome = Unit {0}
IsReadBy seeks.Caught event tag session receipts outcome = Unit {0}

-- ---- an ask

-- a read's reply comes with just these events: those of the session after a mark that fired before
-- the read
pub record IsToldRead (ask : Ask) (receipts : List Receipt) (events : List Change) : Type 0 where
  pub tag : ℕ
  pub now : ℤ
  pub outcome : Outcome
  pub read : IsRead (event_of ask tag now) tag (session_of ask) receipts outcome
  pub all : events ≡ outcome.events.items

abbrev pub IsToldReadBy : ReplyKind → Ask → List Receipt → Option Outcome → Type 0
IsToldReadBy seeks.Looked ask receipts (Some outcome) = IsToldRead ask receipts outcome.events.items
IsToldReadBy seeks.Looked ask receipts None = ⊥
IsToldReadBy seeks.Written ask receipts outcome = Unit {0}
IsToldReadBy seeks.Caught ask receipts outcome = Unit {0}

abbrev pub TellsEvents : ReplyKind → Ask → List Receipt → List Change → Type 0
TellsEvents seeks.Looked ask receipts events = IsToldRead ask receipts events
TellsEvents seeks.Written ask receipts events = Unit {0}
TellsEvents seeks.Caught ask receipts events = Unit {0}

-- ---- on the way

abbrev pub IsFound : Option Outcome → Outcome → Type 0
IsFound None found = Unit {0}
IsFound (Some outcome) found = found ≡ outcome

abbrev pub HasEventsOf : Option Outcome → List Change → Type 0
HasEventsOf None events = Unit {0}
HasEventsOf (Some outcome) events = events ≡ outcome.events.items
