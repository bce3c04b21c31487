-- Caches of crashed servers in an ensemble: each is over a list that some server had delivered in
-- its run.
use Rattle.std.specs.Prelude.{◌≡◌, ◌≤◌, ℕ, List, length, Option}
use Rattle.zab_epoch.specs.Quorums.{is_heavy}
use Rattle.zk_ensemble.specs.Views.{Below, IsOfRun}
use Rattle.zk_replicas.specs.declared.crash_cache.CrashCache.{CrashCache}
use Rattle.zk_replicas.specs.Keeping.{IsOver, EachKept}
use Rattle.zk_model.specs.declared.event.Event.{Event}
use Rattle.zk_model.specs.Ensembles.{ReplicaView, profile_by}
use Rattle.zk_model.specs.Runs.{delivered_after}

-- over what some server had delivered after the first `n` of these events
pub record WasDelivered (quorums : List ℕ) (servers : ℕ) (events : List Event) (it : CrashCache) : Type 0 where
  pub count : ℕ
  pub number : ℕ
  pub within : count ≤ length events
  pub over : IsOver (delivered_after (profile_by (is_heavy quorums)) servers events count number) it

-- an ensemble is that of a run, and what its caches hold was delivered there
pub record IsStanding (below : Below) (shown : List ReplicaView) (kept : List (Option CrashCache)) : Type 0 where
  pub run : IsOfRun below shown
  pub places : length kept ≡ length shown
  pub aside : EachKept (WasDelivered below.quorums below.servers run.events) kept
