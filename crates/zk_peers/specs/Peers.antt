-- The servers of an ensemble in one process, the mail between them, and their leader.
-- ZooKeeper Internals, "Quorums" and "Leader Activation"; class QuorumPeer.
use Rattle.std.specs.Prelude.{◌≡◌, ◌≢◌, ◌+◌, ◌-◌, ◌==◌, ◌&&◌, nat_le, nat_lt, ℕ, zero, suc, Bool, true, false, not, List, [], ◌∷◌, ◌++◌, length, slice_get, Option, Some, None, if◌then◌else◌}
use Rattle.zab_broadcast.specs.Rules.{is_serving}
use Rattle.zab_epoch.specs.declared.message.Message.{Message}
use Rattle.zab_epoch.specs.declared.role.Role.{Role}
use Rattle.zab_epoch.specs.declared.role.Role.TheVariants.{Looking, Following as Follows}
use Rattle.zab_epoch.specs.declared.stable.Stable.{Stable}
use Rattle.zab_host.specs.declared.vote.Vote.{Vote}
use Rattle.zab_host.specs.Votes.{vote_of}
use Rattle.zab_host.specs.LoneLeaders.{own_messages}
use Rattle.zab_epoch.specs.Quorums.{is_majority}
use Rattle.zk_host.specs.declared.replica_host.ReplicaHost.{ReplicaHost}
use Rattle.zk_peers.specs.declared.cut.Cut.{Cut}
use Rattle.zk_peers.specs.declared.peers.Peers.{Peers}
use Rattle.zk_peers.specs.declared.place.Place.{Place}
use Rattle.zk_peers.specs.declared.place.Place.TheVariants.{Up, Down}
use Rattle.zk_peers.specs.declared.state.PeerState.{PeerState}
use Rattle.zk_peers.specs.declared.state.PeerState.TheVariants as states
use Rattle.zk_peers.specs.Elections.{IsWinner}
use Rattle.zk_peers.specs.Hosts.{setting_for, HasStarted}
use Rattle.zk_peers.specs.Links.{is_cut, mail_for}
use Rattle.zk_requests.specs.declared.call.Call.{Call}
use Rattle.zk_peers.specs.Places.{host_in, is_up, after_crash, Restarts, TakesRole, HearsAt, ChangesAt}

-- ---- servers

-- servers are numbered from 1
abbrev pub is_server : {S : Type 0} → List (Place S) → ℕ → Bool
is_server places server = nat_lt 0 server && nat_le server (length places)

-- two servers have a link
abbrev pub is_link : {S : Type 0} → List (Place S) → ℕ → ℕ → Bool
is_link places one other = is_server places one && (is_server places other && not (one == other))

-- the place of a server
abbrev pub place_at : {S : Type 0} → List (Place S) → ℕ → Option (Place S)
place_at places server = if server == 0 then None else slice_get places (server - 1)

abbrev pub host_of : {S : Type 0} → Option (Place S) → Option (ReplicaHost S)
host_of None = None
host_of (Some place) = host_in place

-- the host of a server that is up
abbrev pub host_at : {S : Type 0} → List (Place S) → ℕ → Option (ReplicaHost S)
host_at places server = if server == 0 then None else host_of (slice_get places (server - 1))

abbrev pub is_some_host : {S : Type 0} → Option (ReplicaHost S) → Bool
is_some_host None = false
is_some_host (Some host) = true

abbrev pub is_up_at : {S : Type 0} → List (Place S) → ℕ → Bool
is_up_at places server = is_some_host (host_at places server)

-- ---- quorums

-- the server at a place is up, and its link to this server is not cut
abbrev pub is_heard : {S : Type 0} → List Cut → ℕ → ℕ → Place S → Bool
is_heard cuts server at place = is_up place && not (is_cut cuts server at)

-- a mark for each server from number `at` on
abbrev pub heard_by : {S : Type 0} → List Cut → ℕ → ℕ → List (Place S) → List Bool
heard_by cuts server at [] = []
heard_by cuts server at (place ∷ places) = is_heard cuts server at place ∷ heard_by cuts server (at + 1) places

-- a server is up, and hears a quorum
abbrev pub has_quorum : {S : Type 0} → List Cut → List (Place S) → ℕ → Bool
has_quorum cuts places server =
    is_up_at places server && is_majority (length places) (heard_by cuts server 1 places)

-- ---- elections

-- a server's vote for itself
abbrev pub vote_for : {S : Type 0} → ℕ → Option (ReplicaHost S) → List Vote
vote_for server None = []
vote_for server (Some host) =
    record { epoch = (vote_of host.host.state).epoch; zxid = (vote_of host.host.state).zxid; server = server } ∷ []

abbrev pub candidate : {S : Type 0} → List Cut → List (Place S) → ℕ → List Vote
candidate cuts places server =
    if has_quorum cuts places server then vote_for server (host_at places server) else []

-- the votes of those of the first servers that hear a quorum
abbrev pub first_candidates : {S : Type 0} → List Cut → List (Place S) → ℕ → List Vote
first_candidates cuts places zero = []
first_candidates cuts places (suc servers) =
    first_candidates cuts places servers ++ candidate cuts places (servers + 1)

abbrev pub candidates : {S : Type 0} → List Cut → List (Place S) → List Vote
candidates cuts places = first_candidates cuts places (length places)

-- the server with the greatest epoch, zxid and number among those that hear a quorum
pub record IsElected {S : Type 0} (cuts : List Cut) (places : List (Place S)) (server : ℕ) : Type 0 where
  pub vote : Vote
  pub wins : IsWinner vote (candidates cuts places)
  pub is : vote.server ≡ server

-- ---- the leader

-- a server leads, or hears the leader; the leader has a quorum
abbrev pub hears_leader : {S : Type 0} → List Cut → List (Place S) → Option ℕ → ℕ → Bool
hears_leader cuts places None server = false
hears_leader cuts places (Some leader) server = has_quorum cuts places leader && not (is_cut cuts server leader)

abbrev pub is_serving_host : {S : Type 0} → Option (ReplicaHost S) → Bool
is_serving_host None = false
is_serving_host (Some host) = is_serving host.host.state.peer.role

-- a server serves clients: it accepts their calls, and it hears a leader with a quorum
abbrev pub serves : {S : Type 0} → List Cut → List (Place S) → Option ℕ → ℕ → Bool
serves cuts places leader server =
    hears_leader cuts places leader server && is_serving_host (host_at places server)

-- a server leads, and has not given up
abbrev pub is_leading : Role → Bool
is_leading Looking = false
is_leading (Follows leader synced) = false
is_leading role = true

abbrev pub is_leading_host : {S : Type 0} → Option (ReplicaHost S) → Bool
is_leading_host None = false
is_leading_host (Some host) = is_leading host.host.state.peer.role

-- there is a leader that leads, and it has a quorum
abbrev pub is_led : {S : Type 0} → List Cut → List (Place S) → Option ℕ → Bool
is_led cuts places None = false
is_led cuts places (Some leader) = has_quorum cuts places leader && is_leading_host (host_at places leader)

abbrev pub is_leader : Option ℕ → ℕ → Bool
is_leader None server = false
is_leader (Some leader) server = leader == server

abbrev pub state_of : {S : Type 0} → List Cut → List (Place S) → Option ℕ → ℕ → PeerState
state_of cuts places leader server =
    if serves cuts places leader server
    then (if is_leader leader server then states.Leading else states.Following)
    else (if is_up_at places server then states.Looking else states.Down)

-- a leader that crashes leads no more
abbrev pub leader_without : Option ℕ → ℕ → Option ℕ
leader_without leader server = if is_leader leader server then None else leader

-- ---- a lone server

abbrev pub own_messages_of : {S : Type 0} → Option (ReplicaHost S) → List (Message Call)
own_messages_of None = []
own_messages_of (Some host) = own_messages host.host.state.peer.role (vote_of host.host.state)

-- what the only server of an ensemble sends itself as it begins to lead
abbrev pub own_mail : {S : Type 0} → List (Place S) → ℕ → List (Message Call)
own_mail places server = if length places == 1 then own_messages_of (host_at places server) else []

-- ---- changes

-- all but the places and the leader is as it was
pub record SameAround {S : Type 0} (old new : Peers S) : Type 0 where
  pub cuts : new.cuts ≡ old.cuts
  pub posted : new.posted ≡ old.posted
  pub arriving : new.arriving ≡ old.arriving

-- a server that has not received all of its mail is still up, and nothing else has changed
pub record FailsAt {S : Type 0} (server : ℕ) (old new : Peers S) : Type 0 where
  pub fails : ChangesAt server (λ before after. is_up after ≡ true) old.places.items new.places.items
  pub leader_is : new.leader ≡ old.leader
  pub around : SameAround old new

module _ {S : Type 0} (clean : S → Type 0) (may_recover : S → Stable → Type 0) (boots : S → ℕ) where
  -- ---- a start

  -- the servers from number `me` on have started, each on its store
  abbrev pub StartAll : ℕ → ℕ → List S → List (Place S) → Type 0
  StartAll servers me [] [] = Unit {0}
  StartAll servers me (storage ∷ storages) (place ∷ places) =
      Restarts clean may_recover boots servers me (Down storage) place × StartAll servers (me + 1) storages places
  StartAll servers me [] (place ∷ places) = ⊥
  StartAll servers me (storage ∷ storages) [] = ⊥

  -- the next server has started on its store
  pub record StartsNext (servers : ℕ) (storage : S) (old new : List (Place S)) : Type 0 where
    pub host : ReplicaHost S
    pub started : HasStarted clean may_recover boots servers (length old + 1) storage host
    pub added : new ≡ old ++ Up host ∷ []

  pub record Starts (storages : List S) (new : Peers S) : Type 0 where
    pub places : StartAll (length storages) 1 storages new.places.items
    pub leader_is : new.leader ≡ None
    pub cuts : new.cuts.items ≡ []
    pub posted : new.posted ≡ []
    pub arriving : new.arriving ≡ []

module _ {S : Type 0} (may_recover : S → Stable → Type 0) (boots : S → ℕ) where
  -- ---- roles

  -- a server of these that is up leads, or follows the leader
  abbrev pub TakesRoleAt : ℕ → ℕ → List (Place S) → List (Place S) → Type 0
  TakesRoleAt server leader old new =
      ChangesAt server (TakesRole may_recover boots (setting_for (length old)) server leader) old new

  -- the first servers in turn
  abbrev pub FirstTakeRoles : ℕ → ℕ → List (Place S) → List (Place S) → Type 0
  FirstTakeRoles leader zero old new = new ≡ old
  FirstTakeRoles leader (suc servers) old new =
      (between : List (Place S)) × FirstTakeRoles leader servers old between × TakesRoleAt (servers + 1) leader between new

  -- a server leads, and each other that is up follows it; a lone server acknowledges itself
  pub record Leads (leader : ℕ) (old new : Peers S) : Type 0 where
    pub roles : FirstTakeRoles leader (length old.places.items) old.places.items new.places.items
    pub leader_is : new.leader ≡ Some leader
    pub posted : new.posted ≡ old.posted ++ own_mail new.places.items leader
    pub cuts : new.cuts ≡ old.cuts
    pub arriving : new.arriving ≡ old.arriving

  -- the server that is elected leads; if no server hears a quorum, none leads
  abbrev pub Elects : Option ℕ → Peers S → Peers S → Type 0
  Elects (Some server) old new = IsElected old.cuts.items old.places.items server × Leads server old new
  Elects None old new =
      (candidates old.cuts.items old.places.items ≡ [])
      × (new.leader ≡ None) × (new.places ≡ old.places) × SameAround old new

  -- ---- links

  abbrev pub RejoinsIf : Bool → ℕ → ℕ → List (Place S) → List (Place S) → Type 0
  RejoinsIf true server leader old new = TakesRoleAt server leader old new
  RejoinsIf false server leader old new = new ≡ old

  -- those of the first servers that did not hear the leader follow it again
  abbrev pub FirstRejoin : List Cut → ℕ → ℕ → List (Place S) → List (Place S) → Type 0
  FirstRejoin cuts leader zero old new = new ≡ old
  FirstRejoin cuts leader (suc servers) old new =
      (between : List (Place S)) × FirstRejoin cuts leader servers old between
      × RejoinsIf (is_cut cuts leader (servers + 1)) (servers + 1) leader between new

  abbrev pub Rejoin : List Cut → Option ℕ → List (Place S) → List (Place S) → Type 0
  Rejoin cuts None old new = new ≡ old
  Rejoin cuts (Some leader) old new = FirstRejoin cuts leader (length old) old new

  -- no link is cut any more
  pub record Heals (old new : Peers S) : Type 0 where
    pub cuts : new.cuts.items ≡ []
    pub rejoin : Rejoin old.cuts.items old.leader old.places.items new.places.items
    pub leader_is : new.leader ≡ old.leader
    pub posted : new.posted ≡ old.posted
    pub arriving : new.arriving ≡ old.arriving

  -- ---- crashes and restarts

  pub record Crashes (server : ℕ) (old new : Peers S) : Type 0 where
    pub up : is_up_at old.places.items server ≡ true
    pub crash : ChangesAt server (λ before after. after ≡ after_crash before) old.places.items new.places.items
    pub leader_is : new.leader ≡ leader_without old.leader server
    pub around : SameAround old new

  abbrev pub FollowsIf : Option ℕ → ℕ → List (Place S) → List (Place S) → Type 0
  FollowsIf None server old new = new ≡ old
  FollowsIf (Some leader) server old new = TakesRoleAt server leader old new

  -- a server that is down starts on its store, and follows the leader
  pub record RestartsAt (clean : S → Type 0) (server : ℕ) (old new : Peers S) : Type 0 where
    pub between : List (Place S)
    pub start : ChangesAt server (Restarts clean may_recover boots (length old.places.items) server) old.places.items between
    pub follow : FollowsIf old.leader server between new.places.items
    pub leader_is : new.leader ≡ old.leader
    pub around : SameAround old new

  -- ---- mail

  -- a server receives the messages that arrive at it in this round
  pub record Receives (server : ℕ) (old new : Peers S) : Type 0 where
    pub hears : ChangesAt server (HearsAt may_recover boots (setting_for (length old.places.items)) (mail_for old.cuts.items server old.arriving)) old.places.items new.places.items
    pub leader_is : new.leader ≡ old.leader
    pub around : SameAround old new
