-- What holds of every run. Own.
use Rattle.std.specs.Prelude.{◌≡◌, ℕ, List, ◌++◌}
use Rattle.std.specs.List.{Contains}
use Rattle.zab_epoch.specs.declared.history.Entry.{Entry}
use Rattle.zab_model.specs.declared.event.Event.{Event}
use Rattle.zab_agreement_laws.specs.Agreement.{Agrees}
use Rattle.zab_agreement_laws.specs.Origins.{ComeFromCalls}
use Rattle.zab_agreement_laws.specs.Syncs.{AreCaught}
use Rattle.zab_model.specs.Worlds.{World, Profile}
use Rattle.zab_model.specs.Runs.{run, history_after, IsOfRun}

-- a tag belongs to one entry: over all histories that any servers have after any numbers of a run's
-- events, entries with one tag are one entry
abbrev pub IsTaggedOnce : {C : Type 0} → Profile C → ℕ → List (Event C) → Type 0
IsTaggedOnce profile servers events =
    (one_count other_count one other : ℕ) (x y : Entry)
    → Contains (history_after profile servers events one_count one) x
    → Contains (history_after profile servers events other_count other) y
    → x.tag ≡ y.tag
    → x ≡ y

-- these events lead to this world, and what holds of every run holds of theirs
pub record IsRunTo {C : Type 0} (profile : Profile C) (servers : ℕ) (events : List (Event C)) (w : World C) : Type 0 where
  pub reached : w ≡ (run profile servers events).0
  pub tagged : IsTaggedOnce profile servers events
  pub agrees : Agrees profile servers events
  pub origins : ComeFromCalls profile servers events
  pub syncs : AreCaught profile servers events

-- Two worlds of which the second is the first after the events that count. Some events lead to the
-- first world; and each list of events that does, the caller's own among them, leads to the second
-- one when those that count are appended.
pub record IsNextInRun {C : Type 0} (profile : Profile C) (servers : ℕ) (before : World C) (counted : List (Event C)) (next : World C) : Type 0 where
  pub some : IsOfRun profile servers before
  pub every : (events : List (Event C)) → before ≡ (run profile servers events).0
      → IsRunTo profile servers (events ++ counted) next
