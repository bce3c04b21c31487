-- A read's reply, and the events of its session.
use Rattle.std.proofs.Common.{◌≡◌, ℕ, ℤ, List, [], ◌∷◌, ◌++◌, Option, Some, None, refl, sym, subst}
use Rattle.zk_servers.specs.Looking.{IsToldBefore}
use Rattle.zk_servers.specs.declared.record.Receipt.{Receipt}
use Rattle.zk_line_protocol.specs.declared.ask.Ask.{Ask}
use Rattle.zk_ensemble.specs.declared.outcome.Mark.{Mark}
use Rattle.zk_ensemble.specs.declared.outcome.Outcome.{Outcome}
use Rattle.zk_machine.specs.declared.change.Change.{Change}
use Rattle.zk_model.specs.declared.event.Event.{Event}
use Rattle.zk_front.specs.Asks.{event_of, session_of}
use Rattle.zk_front.specs.declared.reply_kind.ReplyKind.{ReplyKind}
use Rattle.zk_front.specs.declared.reply_kind.ReplyKind.TheVariants as seeks
use Rattle.zk_front.specs.Reading.{HasEventsOf, IsRead, IsReadBy, IsToldRead, IsToldReadBy, TellsEvents}

pub is_read : (event : Event) (tag : ℕ) (session : ℤ) (from : Mark) (receipts earlier : List Receipt) (receipt : Receipt) (outcome : Outcome) → receipts ≡ earlier ++ receipt ∷ [] → IsToldBefore event 1 tag session from receipt outcome
    → IsRead event tag session receipts outcome
is_read event tag session from receipts earlier receipt outcome last told = record {
  earlier = earlier;
  receipt = receipt;
  last = last;
  from = from;
  told = told;
}

-- by the ask of the event
pub told_read : (ask : Ask) (sought : ReplyKind) (event : Event) (tag : ℕ) (now session : ℤ) (receipts : List Receipt) (outcome : Option Outcome) → event ≡ event_of ask tag now → session ≡ session_of ask → IsReadBy sought event tag session receipts outcome
    → IsToldReadBy sought ask receipts outcome
told_read ask seeks.Looked event tag now session receipts (Some outcome) made own read = record {
  tag = tag;
  now = now;
  outcome = outcome;
  read = subst (λ (s : ℤ). IsRead (event_of ask tag now) tag s receipts outcome) own (subst (λ (e : Event). IsRead e tag session receipts outcome) made read);
  all = refl;
}
told_read ask seeks.Looked event tag now session receipts None made own read = read
told_read ask seeks.Written event tag now session receipts outcome made own read = tt
told_read ask seeks.Caught event tag now session receipts outcome made own read = tt

pub tells_events : (sought : ReplyKind) (ask : Ask) (receipts : List Receipt) (outcome : Option Outcome) (events : List Change) → IsToldReadBy sought ask receipts outcome → HasEventsOf outcome events → TellsEvents sought ask receipts events
tells_events seeks.Looked ask receipts (Some outcome) events read has = subst (IsToldRead ask receipts) (sym has) read
tells_events seeks.Looked ask receipts None events read has = absurd read
tells_events seeks.Written ask receipts outcome events read has = tt
tells_events seeks.Caught ask receipts outcome events read has = tt
