-- One ensemble follows another in a run.
use Rattle.std.proofs.Common.{◌≡◌, ℕ, Bool, List, ◌++◌, refl}
use Rattle.zab_epoch.specs.Quorums.{IsQuorumSystem}
use Rattle.zab_rule_laws.proofs.Telling.{all_append}
use Rattle.zab_call_laws.proofs.Origins.{tagged_once}
use Rattle.zab_call_laws.proofs.SyncRuns.{are_caught}
use Rattle.zab_agreement_laws.proofs.AgreeRuns.{runs_agree}
use Rattle.zk_model.specs.Entries.{entry_zxid}
use Rattle.zk_model.specs.declared.event.Event.{Event}
use Rattle.zk_headline_laws.specs.Consequences.{FitsEvent, FitEvents}
use Rattle.zk_model.specs.Ensembles.{Ensemble, new_ensemble, profile_by}
use Rattle.zk_headline_laws.specs.Headline.{IsNextInRun, IsReached, IsRunTo}
use Rattle.zk_model.specs.Runs.{run, after, in_world}
use Rattle.zk_headline_laws.proofs.Consequences.{consequences}
use Rattle.zk_headline_laws.proofs.Headlines.{headline}
use Rattle.zk_model.proofs.Worlds.{goes_on, world_then}

-- more events, with sessions of 64 bits
pub fit_more : (some more : List Event) → FitEvents some → FitEvents more → FitEvents (some ++ more)
fit_more some more fit fits = all_append FitsEvent some more fit fits

leads : (passes : List Bool → Bool) (system : IsQuorumSystem passes) (servers : ℕ) (some : List Event) (it : Ensemble) → it ≡ (run (profile_by passes) servers some).0 → IsRunTo (profile_by passes) servers some it
leads passes system servers some it reached =
    record {
      reached = reached;
      headline = headline (profile_by passes) entry_zxid system (λ history call zxid. refl) servers some;
      consequences = consequences passes system servers some;
      worlds = world_then (profile_by passes) servers some;
      agrees = runs_agree (profile_by passes) entry_zxid system servers (in_world some);
      tagged = tagged_once (profile_by passes) (λ history call zxid. refl) servers (in_world some);
      syncs = are_caught (profile_by passes) entry_zxid system servers (in_world some);
    }

pub follows : (passes : List Bool → Bool) (system : IsQuorumSystem passes) (servers : ℕ) (before : Ensemble) (counted : List Event) (next : Ensemble) → IsReached (profile_by passes) servers before → FitEvents counted → next ≡ after (profile_by passes) before counted → IsNextInRun (profile_by passes) servers before counted next
follows passes system servers before counted next was fits is =
    record {
      reached = was;
      fit = fits;
      every = λ some reached. leads passes system servers (some ++ counted) next (goes_on (profile_by passes) (new_ensemble servers) before next some counted reached is);
    }
