-- How an event counts in a run, by its answer. Own.
use Rattle.std.specs.Prelude.{◌≡◌, ℕ, true, List, [], ◌∷◌, Ok, Err}
use Rattle.zab_model.specs.declared.event.Event.{Event}
use Rattle.zab_model.specs.declared.event.Event.TheVariants.{Crash, Restart}
use Rattle.zab_model.specs.declared.fault.WorldFault.{WorldFault}
use Rattle.zab_model.specs.declared.fault.WorldFault.TheVariants as faults
use Rattle.zab_model.specs.Movers.{mover}
use Rattle.zab_model.specs.Running.{is_running}
use Rattle.zab_model.specs.Worlds.{World, Profile, Answer, happens}

-- not at all if no memory was left; as a crash if its server died
abbrev pub counted_by : {C : Type 0} → Event C → WorldFault → List (Event C)
counted_by event faults.NoMemory = []
counted_by event (faults.Died number) = Crash number ∷ []
counted_by event fault = event ∷ []

-- how an event with this answer counts
abbrev pub counted : {C : Type 0} → Event C → Answer → List (Event C)
counted event (Ok numbers) = event ∷ []
counted event (Err fault) = counted_by event fault

abbrev pub IsNoRestart : {C : Type 0} → Event C → Type 0
IsNoRestart (Restart number) = ⊥
IsNoRestart event = Unit {0}

-- the server that the event would have changed died: it ran, and the event did not start it
pub record HasDied {C : Type 0} (w : World C) (event : Event C) (number : ℕ) : Type 0 where
  pub is : number ≡ mover w event
  pub ran : is_running w number ≡ true
  pub no_restart : IsNoRestart event

-- an answer is the event's in the run, except for the two errors of a failed allocation
abbrev pub IsAnsweredBy : {C : Type 0} → Profile C → World C → Event C → WorldFault → Type 0
IsAnsweredBy profile w event faults.NoMemory = Unit {0}
IsAnsweredBy profile w event (faults.Died number) = HasDied w event number
IsAnsweredBy profile w event fault = (happens profile w event).1 ≡ Err fault

abbrev pub IsAnswered : {C : Type 0} → Profile C → World C → Event C → Answer → Type 0
IsAnswered profile w event (Ok numbers) = (happens profile w event).1 ≡ Ok numbers
IsAnswered profile w event (Err fault) = IsAnsweredBy profile w event fault
