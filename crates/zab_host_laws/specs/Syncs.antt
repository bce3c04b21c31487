-- The completed syncs of hosts.
-- ZooKeeper Programmer's Guide, "Consistency Guarantees".
use Rattle.std.specs.Prelude.{◌≡◌, ℕ, List, [], length}
use Rattle.std.specs.List.{Contains}
use Rattle.zab_agreement_laws.specs.Syncs.{IsCaught}
use Rattle.zab_broadcast.specs.declared.syncs.Caught.{Caught}
use Rattle.zab_model.specs.declared.event.Event.{Event}
use Rattle.zab_model.specs.declared.used_tags.UsedTags.{UsedTags}
use Rattle.zab_model.specs.Runs.{run, syncs_of}
use Rattle.zab_model.specs.Worlds.{Profile}
use Rattle.zab_host_laws.specs.Hosts.{Step, Network, new_network, with_tags, after_steps, MayStepAll}

-- A run with the servers and messages of a network, in which each completed sync of a host is one
-- of the run's server. The host has delivered what the leader of the sync's epoch had delivered
-- when the sync was taken.
pub record SyncsAreCaught {C : Type 0} (profile : Profile C) (servers : ℕ) (network : Network C) : Type 0 where
  pub events : List (Event C)
  pub tags : UsedTags
  pub is : (run profile servers events).0 ≡ with_tags tags network
  pub caught : (number : ℕ) (it : Caught) → Contains (syncs_of network number) it → IsCaught profile servers events (length events) number it

abbrev pub HostSyncsAreCaught : {C : Type 0} → Profile C → Type 0
HostSyncsAreCaught {C} profile = (servers : ℕ) (steps : List (Step C)) → MayStepAll profile (new_network servers) [] [] steps
    → SyncsAreCaught profile servers (after_steps profile (new_network servers) steps)
