-- The stable parts on disks, and the events that survive a crash of all servers at any moment.
use Rattle.std.specs.Prelude.{◌≡◌, ◌≢◌, ◌⊎◌, ℕ, List, [], ◌∷◌, ◌++◌, Option}
use Rattle.zab_epoch.specs.declared.stable.Stable.{Stable}
use Rattle.zab_model.specs.declared.event.Event.{Event}
use Rattle.zab_model.specs.Movers.{mover}
use Rattle.zab_model.specs.Worlds.{World, Profile, happens}
use Rattle.zab_model.specs.Runs.{run, stable_of}

-- the stable part on each server's disk
abbrev pub Stored : Type 0
Stored = ℕ → Option Stable

-- the disks hold the stable parts of a run's servers
abbrev pub IsRecoverable : {C : Type 0} → Profile C → ℕ → List (Event C) → Stored → Type 0
IsRecoverable profile servers events stored = (number : ℕ) → stored number ≡ stable_of (run profile servers events).0 number

-- an event changes the stable part of one server at most
abbrev pub OnlyItsServerChanges : {C : Type 0} → Profile C → Type 0
OnlyItsServerChanges {C} profile = (w : World C) (event : Event C) (number : ℕ) → number ≢ mover w event → stable_of (happens profile w event).0 number ≡ stable_of w number

-- A crash while an event is stored: the disk of its server has the stable part before or after the
-- event, and no other disk changes.
pub record IsLeftBy {C : Type 0} (profile : Profile C) (servers : ℕ) (events : List (Event C)) (event : Event C) (stored left : Stored) : Type 0 where
  pub its : (left (mover (run profile servers events).0 event) ≡ stored (mover (run profile servers events).0 event))
      ⊎ (left (mover (run profile servers events).0 event) ≡ stable_of (run profile servers (events ++ event ∷ [])).0 (mover (run profile servers events).0 event))
  pub others : (number : ℕ) → number ≢ mover (run profile servers events).0 event → left number ≡ stored number

-- A crash at any moment leaves the run of the events so far, or of these and the event that is
-- being stored.
abbrev pub CrashesLeaveAPrefix : {C : Type 0} → Profile C → Type 0
CrashesLeaveAPrefix {C} profile = (servers : ℕ) (events : List (Event C)) (event : Event C) (stored left : Stored)
    → IsRecoverable profile servers events stored → IsLeftBy profile servers events event stored left
    → IsRecoverable profile servers events left ⊎ IsRecoverable profile servers (events ++ event ∷ []) left
