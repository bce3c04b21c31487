-- A host whose clients take its completed syncs does what it would do if it kept them.
use Rattle.std.specs.Prelude.{◌≡◌, List, [], ◌++◌}
use Rattle.zab_broadcast.specs.declared.state.State.{State}
use Rattle.zab_broadcast.specs.declared.syncs.Caught.{Caught}
use Rattle.zab_broadcast.specs.Calls.{Setting}
use Rattle.zab_host.specs.Hosts.{Input, acts_of}

-- a server's state with these completed syncs
abbrev pub with_caught : State → List Caught → State
with_caught state caught = record state { caught = caught }

-- the state of a server, and that of the same server after its first completed syncs were taken
pub record HasTaken (taken : List Caught) (whole left : State) : Type 0 where
  pub same : left ≡ with_caught whole left.caught
  pub all : whole.caught ≡ taken ++ left.caught

-- Each input does the same in both: no completed sync is lost, and none is taken twice.
pub record TakenSyncsChangeNothing {C : Type 0} (setting : Setting C) : Type 0 where
  pub inputs : (taken : List Caught) (whole left : State) (input : Input C) → HasTaken taken whole left
      → HasTaken taken (acts_of setting whole input).0 (acts_of setting left input).0
      × ((acts_of setting left input).1 ≡ (acts_of setting whole input).1)
  -- those left are taken after those before
  pub takes : (taken : List Caught) (whole left : State) → HasTaken taken whole left
      → HasTaken (taken ++ left.caught) whole (with_caught left [])
