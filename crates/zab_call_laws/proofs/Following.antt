-- One world follows another in a run.
use Rattle.std.proofs.Common.{◌≡◌, ℕ, List, ◌++◌}
use Rattle.zab_agreement_laws.proofs.AgreeRuns.{runs_agree}
use Rattle.zab_agreement_laws.specs.Laws.{IsNextInRun}
use Rattle.zab_call_laws.proofs.Origins.{tagged_once, come_from_calls}
use Rattle.zab_call_laws.proofs.SyncRuns.{are_caught}
use Rattle.zab_epoch.specs.Quorums.{IsQuorumSystem}
use Rattle.zab_rule_laws.proofs.Hearing.{CarriesZxid}
use Rattle.zab_rule_laws.proofs.TagCalls.{CarriesTag}
use Rattle.zab_model.proofs.RunLaws.{goes_on}
use Rattle.zab_model.specs.declared.event.Event.{Event}
use Rattle.zab_model.specs.Runs.{after, IsOfRun}
use Rattle.zab_model.specs.Worlds.{World, Profile, new_world}

pub follows : {C : Type 0} (profile : Profile C) → CarriesTag profile.setting → CarriesZxid profile.setting → IsQuorumSystem profile.setting.passes → (servers : ℕ) (before : World C) (counted : List (Event C)) (next : World C) → IsOfRun profile servers before → next ≡ after profile before counted → IsNextInRun profile servers before counted next
follows profile carries_tag carries_zxid system servers before counted next some is =
    record {
      some = some;
      every = λ events reached. record {
        reached = goes_on profile (new_world servers) before next events counted reached is;
        tagged = tagged_once profile carries_tag servers (events ++ counted);
        agrees = runs_agree profile carries_zxid system servers (events ++ counted);
        origins = come_from_calls profile carries_tag carries_zxid system servers (events ++ counted);
        syncs = are_caught profile carries_zxid system servers (events ++ counted);
      };
    }
