-- A server's part in its ensemble.
use Rattle.std.specs.Prelude.{◌≡◌, ℕ, List, Some}
use Rattle.zab_epoch.specs.declared.message.Message.{Message}
use Rattle.zab_epoch.specs.declared.stable.Stable.{Stable}
use Rattle.zab_host.specs.Votes.{vote_of}
use Rattle.zk_host.specs.declared.replica_host.ReplicaHost.{ReplicaHost}
use Rattle.zk_requests.specs.declared.call.Call.{Call}
use Rattle.zk_peer_links.specs.declared.arrival.Arrival.{Arrival}
use Rattle.zk_server.specs.declared.member.Member.{Member}
use Rattle.zk_server.specs.declared.site.Site.{Site}
use Rattle.zk_server.specs.declared.site.Site.TheVariants as sites
use Rattle.zk_server.specs.Elections.{ElectionView, new_election}
use Rattle.zk_server.specs.Turns.{HasFailed, HasTurned}
use Rattle.zk_server_laws.specs.Turns.{StartsOn}

pub record PeerView (S : Type 0) : Type 0 where
  pub me : Member
  pub election : ElectionView
  pub site : Site S

abbrev pub peer : {S : Type 0} → Member → ElectionView → Site S → PeerView S
peer me election site = record { me = me; election = election; site = site }

module _ {S : Type 0} (may_recover : S → Stable → Type 0) (boots : S → ℕ) where
  -- a turn that returns
  pub record Turns (arrivals : List Arrival) (old new : PeerView S) (messages : List (Message Call)) : Type 0 where
    pub me : new.me ≡ old.me
    pub before : ReplicaHost S
    pub after : ReplicaHost S
    pub ran : old.site ≡ sites.Runs before
    pub runs : new.site ≡ sites.Runs after
    pub turned : HasTurned may_recover boots old.me arrivals old.election before new.election after messages

  -- a turn that stops the server
  pub record Stops (arrivals : List Arrival) (old new : PeerView S) : Type 0 where
    pub me : new.me ≡ old.me
    pub before : ReplicaHost S
    pub storage : S
    pub ran : old.site ≡ sites.Runs before
    pub stopped : new.site ≡ sites.Stopped (Some storage)
    pub failed : HasFailed may_recover boots old.me arrivals before storage

-- a start on a store: if the store is clean, on what it recovers
pub record StartsAt {S : Type 0} (clean : S → Type 0) (may_recover : S → Stable → Type 0) (boots : S → ℕ) (me : Member) (storage : S) (it : PeerView S) : Type 0 where
  pub member : it.me ≡ me
  pub host : ReplicaHost S
  pub runs : it.site ≡ sites.Runs host
  pub stable : Stable
  pub starts : clean host.host.storage → StartsOn may_recover boots me.servers me.number storage stable host.tags.boot host.host
  pub unused : host.tags.used ≡ 0
  pub looks : it.election ≡ new_election me.servers (vote_of host.host.state)
