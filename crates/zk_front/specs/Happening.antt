-- Events of an ensemble, one by one. The ensemble's rules are those of `zk_model`.
use Rattle.std.specs.Prelude.{◌≡◌, List, Bool, true, false, Ok, Err}
use Rattle.zk_ensemble.specs.Views.{EnsembleView, state_of, profile_in}
use Rattle.zk_model.specs.Counting.{counted, IsAnswered}
use Rattle.zk_model.specs.Ensembles.{Told}
use Rattle.zk_model.specs.Runs.{after}
use Rattle.zk_model.specs.declared.event.Event.{Event}
use Rattle.zk_model.specs.declared.fault.EnsembleFault.TheVariants as faults

-- these events happened, in order, and no others; the quorums and the number of servers are
-- unchanged
pub record Ran (old : EnsembleView) (some : List Event) (new : EnsembleView) : Type 0 where
  pub state : state_of new ≡ after (profile_in old.below) (state_of old) some
  pub quorums : new.below.quorums ≡ old.below.quorums
  pub servers : new.below.servers ≡ old.below.servers

-- The answer of an event is that in a run of the events that count. An event counts as none if an
-- allocation failed before it, and as the crash of its server if one failed after it.
pub record Happens (old : EnsembleView) (event : Event) (answer : Told) (new : EnsembleView) : Type 0 where
  pub ran : Ran old (counted event answer) new
  pub answered : IsAnswered (profile_in old.below) (state_of old) event answer

-- an allocation failed, before the event or after it
abbrev pub is_lack : Told → Bool
is_lack (Err faults.NoMemory) = true
is_lack (Err (faults.Died number)) = true
is_lack (Err fault) = false
is_lack (Ok answer) = false
