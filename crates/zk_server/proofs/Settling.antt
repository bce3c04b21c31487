-- A server between two turns.
use Rattle.std.proofs.Common.{◌≡◌, ℕ, ◌+◌, List, [], length, Option, Some, None, Result, Ok, Err, refl, sym, ap, ◌∙◌, subst, arith}
use Rattle.zab_broadcast.specs.Rules.{restored}
use Rattle.zab_epoch.specs.declared.stable.Stable.{Stable}
use Rattle.zab_host.specs.Durability.{IsDurable}
use Rattle.zab_broadcast.specs.declared.state.State.{State}
use Rattle.zab_host.specs.Hosts.{IsStored}
use Rattle.zab_host.specs.Votes.{vote_of}
use Rattle.zab_host.specs.declared.vote.Vote.{Vote}
use Rattle.zk_host.specs.declared.replica_host.ReplicaHost.{ReplicaHost}
use Rattle.zk_server.specs.declared.member.Member.{Member}
use Rattle.zk_server.specs.declared.site.Site.{Site}
use Rattle.zk_server.specs.declared.site.Site.TheVariants as sites
use Rattle.zk_server.specs.Elections.{ElectionView, new_election}
use Rattle.zk_requests.specs.declared.call.Call.{Call}
use Rattle.zab_epoch.specs.declared.message.Message.{Message}
use Rattle.zk_peer_links.specs.declared.arrival.Arrival.{Arrival}
use Rattle.zk_server.specs.declared.stopped.Stopped.{Stopped}
use Rattle.zk_server.specs.Peers.{StartsAt, peer}
use Rattle.zk_server.specs.Turns.{HasFailed, HasTurned, Ran}
use Rattle.zk_server.specs.Sites.{IsReady, IsSettled}

module _ {S : Type 0} (may_recover : S → Stable → Type 0) (me : Member) where
  -- a server that runs is settled if its host is ready
  pub settled_runs : (host : ReplicaHost S) → IsReady may_recover me host → IsSettled may_recover me (sites.Runs host)
  settled_runs host ready = record { ready = λ other is. (let same : host ≡ other = cc in subst (λ (it : ReplicaHost S). IsReady may_recover me it) same ready) }

  pub settled_stopped : (storage : Option S) → IsSettled may_recover me (sites.Stopped storage)
  settled_stopped storage = record { ready = λ other is. absurd cc }

module _ {S : Type 0} (may_recover : S → Stable → Type 0) (boots : S → ℕ) (me : Member) (arrivals : List Arrival) (election next : ElectionView) (old : ReplicaHost S) where
  pub settled_ran : (site : Site S) (result : Result (List (Message Call)) Stopped) → Ran may_recover boots me arrivals election old next site result → IsSettled may_recover me site
  settled_ran (sites.Runs new) (Ok messages) ran = settled_runs may_recover me new ran.ready
  settled_ran (sites.Runs new) (Err why) ran = absurd ran
  settled_ran (sites.Stopped (Some storage)) (Ok messages) ran = absurd ran
  settled_ran (sites.Stopped (Some storage)) (Err why) ran = settled_stopped may_recover me (Some storage)
  settled_ran (sites.Stopped None) (Ok messages) ran = absurd ran
  settled_ran (sites.Stopped None) (Err why) ran = absurd ran

  pub record RanOk (site : Site S) (messages : List (Message Call)) : Type 0 where
    pub after : ReplicaHost S
    pub runs : site ≡ sites.Runs after
    pub turned : HasTurned may_recover boots me arrivals election old next after messages

  pub record RanErr (site : Site S) : Type 0 where
    pub storage : S
    pub stopped : site ≡ sites.Stopped (Some storage)
    pub failed : HasFailed may_recover boots me arrivals old storage

  pub ran_ok : (site : Site S) (messages : List (Message Call)) → Ran may_recover boots me arrivals election old next site (Ok messages) → RanOk site messages
  ran_ok (sites.Runs new) messages ran = record { after = new; runs = refl; turned = ran }
  ran_ok (sites.Stopped (Some storage)) messages ran = absurd ran
  ran_ok (sites.Stopped None) messages ran = absurd ran

  pub ran_err : (site : Site S) (why : Stopped) → Ran may_recover boots me arrivals election old next site (Err why) → RanErr site
  ran_err (sites.Runs new) why ran = absurd ran
  ran_err (sites.Stopped (Some storage)) why ran = record { storage = storage; stopped = refl; failed = ran }
  ran_err (sites.Stopped None) why ran = absurd ran

  pub failed_at : (storage kept : S) → storage ≡ kept → HasFailed may_recover boots me arrivals old kept → HasFailed may_recover boots me arrivals old storage
  failed_at storage kept same failed = subst (λ (s : S). HasFailed may_recover boots me arrivals old s) (sym same) failed

-- ---- a start

module _ {S : Type 0} (clean : S → Type 0) (may_recover : S → Stable → Type 0) (boots : S → ℕ) (me : Member) (storage : S) (host : ReplicaHost S)
    (started : (stable : Stable) × ((clean host.host.storage → may_recover storage stable)
    × ((host.host.state ≡ restored me.servers me.number stable) × ((host.host.outbox ≡ []) × IsDurable stable (may_recover host.host.storage)))))
    (tags : (host.tags.host ≡ me.number) × ((host.tags.boot ≡ boots storage + 1) × (host.tags.used ≡ 0))) (counted : boots host.host.storage ≡ boots storage + 1) where
  stored : IsStored may_recover host.host
  stored found may = started.1.1.1.1 found may ∙ ap (λ (s : State). s.peer.stable) (sym started.1.1.0)

  pub start_ready : IsReady may_recover me host
  start_ready = record {
    silent = ap length started.1.1.1.0;
    stored = stored;
    mine = tags.0;
    within = (let e : host.tags.used ≡ 0 = tags.1.1 in omega arith);
  }

  pub starts_at : (vote : Vote) → vote ≡ vote_of host.host.state → StartsAt clean may_recover boots me storage (peer me (new_election me.servers vote) (sites.Runs host))
  starts_at vote is = record {
    member = refl;
    host = host;
    runs = refl;
    stable = started.0;
    starts = λ honest. record {
      found = started.1.0 honest;
      state = started.1.1.0;
      stored = started.1.1.1.1;
      counted = (let e : host.tags.boot ≡ boots storage + 1 = tags.1.0 in omega arith);
      starts = counted ∙ sym tags.1.0;
      within = host.tags.in_range;
    };
    unused = tags.1.1;
    looks = ap (new_election me.servers) is;
  }
