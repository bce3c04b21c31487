-- A read's reply, and the events of its session that come with it. ZooKeeper Programmer's Guide,
-- "ZooKeeper Watches": a client gets the event of a change before it sees the change, and never
-- before the reply to the read that set the watch.
use Rattle.std.specs.Prelude.{ℕ, ℤ}
use Rattle.zk_servers.specs.Chronicles.{ChronicleView, IsOutcomeIn, IsRecorded}
use Rattle.zk_servers.specs.declared.record.Receipt.{Receipt}
use Rattle.zk_ensemble.specs.declared.outcome.Mark.{Mark}
use Rattle.zk_ensemble.specs.declared.outcome.Outcome.{Outcome}
use Rattle.zk_model.specs.declared.event.Event.{Event}

-- The event was recorded, and the outcome is that of the ensemble right before it. The session gets
-- its events after the mark that fired before the read, and none that fired by the read or later.
pub record IsToldBefore (event : Event) (number tag : ℕ) (session : ℤ) (from : Mark) (receipt : Receipt) (outcome : Outcome) : Type 0 where
  pub before : ChronicleView
  pub after : ChronicleView
  pub recorded : IsRecorded event before after receipt
  pub told : IsOutcomeIn before number tag session from outcome
