-- The guarantee of a sync: its server has delivered what the leader of its epoch had delivered when
-- the sync was accepted. ZooKeeper Programmer's Guide (3.4): Consistency Guarantees.
use Rattle.std.specs.Prelude.{◌≡◌, ℕ, ◌<◌, ◌≤◌, List, length, Some, Ok, slice_get}
use Rattle.std.specs.List.{Contains}
use Rattle.zab_epoch.specs.declared.history.Entry.{Entry}
use Rattle.zab_broadcast.specs.declared.syncs.Caught.{Caught}
use Rattle.zab_laws.specs.Prefixes.{IsPrefix}
use Rattle.zab_model.specs.declared.event.Event.{Event}
use Rattle.zab_model.specs.declared.event.Event.TheVariants.{Sync}
use Rattle.zab_model.specs.declared.event.Moved.{Moved}
use Rattle.zab_model.specs.Worlds.{Profile}
use Rattle.zab_model.specs.Runs.{run, delivered_after, syncs_after}
use Rattle.zab_agreement_laws.specs.Moments.{Holds, Started, servers_after}

-- a sync that a server completed with a length within the first `n` events of a run
pub record IsCaught {C : Type 0} (profile : Profile C) (servers : ℕ) (events : List (Event C)) (count server : ℕ) (it : Caught) : Type 0 where
  -- an event asked for it, and was accepted
  pub place : ℕ
  pub before : place < count
  pub asked : slice_get events place ≡ Some (Sync server it.tag)
  pub sent : Moved
  pub accepted : slice_get (run profile servers events).1 place ≡ Some (Ok sent)
  -- and no other accepted event has its tag
  pub only : (other number : ℕ) (again : Moved) → slice_get events other ≡ Some (Sync number it.tag) → slice_get (run profile servers events).1 other ≡ Some (Ok again) → other ≡ place
  -- the server's epoch at that event, and the leader of that epoch,
  pub epoch : ℕ
  pub history : List Entry
  pub held : Holds (servers_after profile servers events place) server epoch history
  pub leader : ℕ
  pub start : List Entry
  pub started : Started profile servers events leader epoch start
  -- which had delivered no more at that event;
  pub no_more : length (delivered_after profile servers events place leader) ≤ it.length
  -- and the server has delivered at least this many, beginning with what that leader had
  pub delivered : it.length ≤ length (delivered_after profile servers events count server)
  pub front : IsPrefix (delivered_after profile servers events place leader) (delivered_after profile servers events count server)

-- all that any server has completed after any number of a run's events
abbrev pub AreCaught : {C : Type 0} → Profile C → ℕ → List (Event C) → Type 0
AreCaught profile servers events =
    (count server : ℕ) (it : Caught)
    → Contains (syncs_after profile servers events count server) it → IsCaught profile servers events count server it
