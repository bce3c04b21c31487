-- A server between two turns.
use Rattle.std.proofs.Common.{◌≡◌, ◌∙◌, ℕ, ℤ, ◌+◌, List, [], ◌∷◌, Option, Some, None, Result, Ok, Err, refl, sym, ap, subst}
use Rattle.zab_broadcast.specs.Rules.{restored}
use Rattle.zab_epoch.specs.declared.message.Message.{Message}
use Rattle.zab_epoch.specs.declared.stable.Stable.{Stable}
use Rattle.zab_host.specs.Durability.{IsDurable}
use Rattle.zab_host.specs.Votes.{vote_of}
use Rattle.zab_host.specs.declared.vote.Vote.{Vote}
use Rattle.zk_client_port.specs.Turns.{Server, server}
use Rattle.zk_client_port.specs.declared.admission.Admission.{Admission}
use Rattle.zk_client_port.specs.declared.expected.Expected.{Expected}
use Rattle.zk_connections.specs.declared.connection.Connection.{Connection}
use Rattle.zk_host.specs.WatchedTrees.{WatchedTreeView, after_close, new_tree}
use Rattle.zk_host.specs.declared.replica_host.ReplicaHost.{ReplicaHost}
use Rattle.zk_hub.specs.declared.outcome.Outcome.{Outcome}
use Rattle.zk_hub.specs.declared.request.Outstanding.{Outstanding}
use Rattle.zk_peer_links.specs.declared.arrival.Arrival.{Arrival}
use Rattle.zk_quorum_server.specs.Removals.{host_without_watches, site_without_watches, without_watches}
use Rattle.zk_quorum_server.specs.Servers.{with_clients, IsAtRest, Ran, StartsAt}
use Rattle.zk_quorum_server.specs.Turns.{HasRoom, HasServed, HasStopped}
use Rattle.zk_requests.specs.declared.call.Call.{Call}
use Rattle.zk_server.proofs.Settling as peers
use Rattle.zk_server.specs.Elections.{ElectionView, new_election}
use Rattle.zk_server.specs.Peers as peer_starts
use Rattle.zk_server.specs.Peers.{peer}
use Rattle.zk_server.specs.Sites.{IsReady}
use Rattle.zk_server.specs.declared.member.Member.{Member}
use Rattle.zk_server.specs.declared.site.Site.{Site}
use Rattle.zk_server.specs.declared.site.Site.TheVariants as sites
use Rattle.zk_server.specs.declared.stopped.Stopped.{Stopped}

module _ {S : Type 0} (may_recover : S → Stable → Type 0) (me : Member) where
  pub rests_running : (host : ReplicaHost S) → IsReady may_recover me host → host.tree.news ≡ [] → IsAtRest may_recover me (sites.Runs host)
  rests_running host ready written = record {
    ready = λ other is. (let same : host ≡ other = cc in subst (λ (it : ReplicaHost S). IsReady may_recover me it) same ready);
    written = λ other is. (let same : host ≡ other = cc in subst (λ (it : ReplicaHost S). it.tree.news ≡ []) same written);
  }

  pub rests_stopped : (storage : Option S) → IsAtRest may_recover me (sites.Stopped storage)
  rests_stopped storage = record { ready = λ other is. absurd cc; written = λ other is. absurd cc }

-- watches are no part of what a server owes between two turns
news_without_watches : (numbers : List ℕ) (tree : WatchedTreeView) → (without_watches numbers tree).news ≡ tree.news
news_without_watches [] tree = refl
news_without_watches (number ∷ numbers) tree = news_without_watches numbers (after_close number tree)

module _ {S : Type 0} (may_recover : S → Stable → Type 0) (me : Member) where
  ready_without_watches : (numbers : List ℕ) (host : ReplicaHost S) → IsReady may_recover me host → IsReady may_recover me (host_without_watches numbers host)
  ready_without_watches numbers host ready = record { silent = ready.silent; stored = ready.stored; mine = ready.mine; within = ready.within }

  pub rests_without_watches : (numbers : List ℕ) (site : Site S) → IsAtRest may_recover me site → IsAtRest may_recover me (site_without_watches numbers site)
  rests_without_watches numbers (sites.Runs host) rests =
      rests_running may_recover me (host_without_watches numbers host) (ready_without_watches numbers host (rests.ready host refl)) (news_without_watches numbers host.tree ∙ rests.written host refl)
  rests_without_watches numbers (sites.Stopped storage) rests = rests_stopped may_recover me storage

module _ {S : Type 0} (may_recover : S → Stable → Type 0) (boots : S → ℕ) (me : Member) (arrivals : List Arrival) (now : ℤ) (election next : ElectionView) (old : Server S)
    (hub : List (Outstanding Expected Outcome)) (connections : List Connection) (admission : Admission) where
  abbrev Runs : Site S → Result (List (Message Call)) Stopped → Type 0
  Runs site result = Ran may_recover boots me arrivals now election old next hub connections admission site result

  pub rests_ran : (site : Site S) (result : Result (List (Message Call)) Stopped) → Runs site result → IsAtRest may_recover me site
  rests_ran (sites.Runs new) (Ok messages) ran = rests_running may_recover me new ran.ready ran.written
  rests_ran (sites.Runs new) (Err why) ran = absurd ran
  rests_ran (sites.Stopped (Some storage)) (Ok messages) ran = absurd ran
  rests_ran (sites.Stopped (Some storage)) (Err why) ran = rests_stopped may_recover me (Some storage)
  rests_ran (sites.Stopped None) (Ok messages) ran = absurd ran
  rests_ran (sites.Stopped None) (Err why) ran = absurd ran

  pub record RanOk (site : Site S) (messages : List (Message Call)) : Type 0 where
    pub after : ReplicaHost S
    pub runs : site ≡ sites.Runs after
    pub turned : HasServed may_recover boots me arrivals now election old next (server after hub connections admission) messages

  pub record RanErr (site : Site S) : Type 0 where
    pub storage : S
    pub stopped : site ≡ sites.Stopped (Some storage)
    pub failed : HasStopped may_recover boots me arrivals old.host storage
    pub requests : hub ≡ []
    pub closed : connections ≡ []

  pub ran_ok : (site : Site S) (messages : List (Message Call)) → Runs site (Ok messages) → RanOk site messages
  ran_ok (sites.Runs new) messages ran = record { after = new; runs = refl; turned = ran }
  ran_ok (sites.Stopped (Some storage)) messages ran = absurd ran
  ran_ok (sites.Stopped None) messages ran = absurd ran

  pub ran_err : (site : Site S) (why : Stopped) → Runs site (Err why) → RanErr site
  ran_err (sites.Runs new) why ran = absurd ran
  ran_err (sites.Stopped (Some storage)) why ran = record { storage = storage; stopped = refl; failed = ran.0; requests = ran.1.0; closed = ran.1.1 }
  ran_err (sites.Stopped None) why ran = absurd ran

  -- ---- a turn, whose host was moved

  pub served_on : (kept host : ReplicaHost S) (messages : List (Message Call)) → host ≡ kept → HasRoom host
      → (HasRoom kept → HasServed may_recover boots me arrivals now election old next (server kept hub connections admission) messages)
      → HasServed may_recover boots me arrivals now election old next (server host hub connections admission) messages
  served_on kept host messages same room served =
      subst (λ (it : ReplicaHost S). HasServed may_recover boots me arrivals now election old next (server it hub connections admission) messages) (sym same)
      (served (subst (λ (it : ReplicaHost S). HasRoom it) same room))

  pub stopped_on : (kept host : ReplicaHost S) (storage : S) → host ≡ kept → storage ≡ host.host.storage → HasRoom host
      → (HasRoom kept → HasStopped may_recover boots me arrivals old.host kept.host.storage) → HasStopped may_recover boots me arrivals old.host storage
  stopped_on kept host storage same is room stopped =
      subst (λ (s : S). HasStopped may_recover boots me arrivals old.host s) (sym (is ∙ ap (λ (it : ReplicaHost S). it.host.storage) same))
      (stopped (subst (λ (it : ReplicaHost S). HasRoom it) same room))

-- ---- a start

module _ {S : Type 0} (clean : S → Type 0) (may_recover : S → Stable → Type 0) (boots : S → ℕ) (me : Member) (storage : S) (host : ReplicaHost S)
    (started : (stable : Stable) × ((clean host.host.storage → may_recover storage stable)
    × ((host.host.state ≡ restored me.servers me.number stable) × ((host.host.outbox ≡ []) × IsDurable stable (may_recover host.host.storage)))))
    (tags : (host.tags.host ≡ me.number) × ((host.tags.boot ≡ boots storage + 1) × (host.tags.used ≡ 0))) (counted : boots host.host.storage ≡ boots storage + 1) where
  pub start_rests : host.tree ≡ new_tree → IsAtRest may_recover me (sites.Runs host)
  start_rests tree = rests_running may_recover me host (peers.start_ready clean may_recover boots me storage host started tags counted) (ap (λ (t : WatchedTreeView). t.news) tree)

  pub starts_at : (vote : Vote) (admission : Admission) → vote ≡ vote_of host.host.state
      → StartsAt clean may_recover boots me storage (with_clients (peer me (new_election me.servers vote) (sites.Runs host)) [] [] admission)
  starts_at vote admission is = record {
    peer = peers.starts_at clean may_recover boots me storage host started tags counted vote is;
    requests = refl;
    closed = refl;
  }

  pub starts_with : (vote : Vote) (election : ElectionView) (hub : List (Outstanding Expected Outcome)) (connections : List Connection) (admission : Admission) → vote ≡ vote_of host.host.state
      → election ≡ new_election me.servers vote → hub ≡ [] → connections ≡ [] → StartsAt clean may_recover boots me storage (with_clients (peer me election (sites.Runs host)) hub connections admission)
  starts_with vote election hub connections admission is looks none closed = record {
    peer = subst (λ (e : ElectionView). peer_starts.StartsAt clean may_recover boots me storage (peer me e (sites.Runs host))) (sym looks)
        (peers.starts_at clean may_recover boots me storage host started tags counted vote is);
    requests = none;
    closed = closed;
  }
