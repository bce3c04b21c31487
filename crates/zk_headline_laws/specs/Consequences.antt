-- Consequences in every run: the servers' histories hold prepared transactions, with all that
-- follows. ZooKeeper Programmer's Guide, "Ephemeral Nodes" and "ZooKeeper Sessions";
-- `zookeeper.jute`, `MultiTxn`.
use Rattle.std.specs.Prelude.{ℕ, List, FitsSigned}
use Rattle.std.specs.Int.{w64}
use Rattle.std.specs.List.{AllByRecursion}
use Rattle.zab_model.specs.declared.event.Event.{Event as WorldEvent}
use Rattle.zab_model.specs.declared.event.Event.TheVariants as world
use Rattle.zab_model.specs.Worlds.{Profile}
use Rattle.zk_requests.specs.declared.call.Call.{Call}
use Rattle.zk_prepare_laws.specs.Consequences.{HasOpenOwners, IsRefusedOnlyAsError, IsWholeOrNothing}
use Rattle.zk_prepare_laws.specs.Prepared.{ArePrepared, OfEach}
use Rattle.zab_epoch.specs.Entries.{txns_of}
use Rattle.zk_model.specs.declared.event.Event.{Event}
use Rattle.zk_model.specs.declared.event.Event.TheVariants as kinds
use Rattle.zk_model.specs.Runs.{delivered_after, history_after}
use Rattle.zk_table.specs.Histories.{tree_of}

-- ---- a session is a number of 64 bits

abbrev pub FitsInWorld : WorldEvent Call → Type 0
FitsInWorld (world.Submit server call) = FitsSigned w64 call.session
FitsInWorld (world.Expire server tag session now) = FitsSigned w64 session
FitsInWorld _ = Unit {0}

abbrev pub FitsEvent : Event → Type 0
FitsEvent (kinds.World event) = FitsInWorld event
FitsEvent (kinds.Read question) = Unit {0}

abbrev pub FitEvents : List Event → Type 0
FitEvents events = AllByRecursion FitsEvent events

-- ---- the consequences

pub record HasConsequences (profile : Profile Call) (servers : ℕ) (events : List Event) : Type 0 where
  -- each transaction of each history, at any time, is built from some call on the tree of those
  -- before it:
  pub prepared : (after server : ℕ) → ArePrepared (txns_of (history_after profile servers events after server))
  -- the table rejects it only if it is an error, or a multi that holds one,
  pub refused : (after server : ℕ) → OfEach (λ before txn. IsRefusedOnlyAsError (tree_of before) txn)
      (txns_of (history_after profile servers events after server))
  -- and either each part of a multi is applied, or one is an error, and nodes and sessions stay
  -- unchanged.
  pub whole : (after server : ℕ) → OfEach (λ before txn. IsWholeOrNothing (tree_of before) txn)
      (txns_of (history_after profile servers events after server))
  -- In the tree of each history, and of each delivered list, a node's owner is an open session.
  pub owners : FitEvents events → (after server : ℕ)
      → HasOpenOwners (tree_of (txns_of (history_after profile servers events after server)))
  pub owners_shown : FitEvents events → (after server : ℕ)
      → HasOpenOwners (tree_of (txns_of (delivered_after profile servers events after server)))
