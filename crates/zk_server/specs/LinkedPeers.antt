-- A server's part in its ensemble, with its links as bytes.
use Rattle.std.specs.Prelude.{◌≡◌, ℕ, List, [], map, Option, None}
use Rattle.zab_epoch.specs.declared.message.Message.{Message}
use Rattle.zab_epoch.specs.declared.stable.Stable.{Stable}
use Rattle.zk_host.specs.declared.replica_host.ReplicaHost.{ReplicaHost}
use Rattle.zk_peer_links.specs.Links.{HearsAll, LinkView, hearing, link_at}
use Rattle.zk_peer_links.specs.Outputs.{Writes, told}
use Rattle.zk_peer_links.specs.declared.arrival.Arrival.{Arrival}
use Rattle.zk_peer_links.specs.declared.link_input.LinkInput.{LinkInput}
use Rattle.zk_requests.specs.declared.call.Call.{Call}
use Rattle.zk_server.specs.Elections.{notice_of}
use Rattle.zk_server.specs.Peers.{PeerView, StartsAt, Stops, Turns}
use Rattle.zk_server.specs.Sites.{storage_in}
use Rattle.zk_server.specs.declared.member.Member.{Member}
use Rattle.zk_server.specs.declared.site.Site.TheVariants as sites

pub record LinkedView (S : Type 0) : Type 0 where
  pub peer : PeerView S
  -- by place: the link to server 1 is first
  pub links : List (Option LinkView)

abbrev pub linked : {S : Type 0} → PeerView S → List (Option LinkView) → LinkedView S
linked peer links = record { peer = peer; links = links }

abbrev pub AllClosed : List (Option LinkView) → Type 0
AllClosed links = (place : ℕ) → link_at links place ≡ None

-- a server that starts has no connection
pub record LinkedStarts {S : Type 0} (clean : S → Type 0) (may_recover : S → Stable → Type 0) (boots : S → ℕ) (me : Member) (storage : S) (it : LinkedView S) : Type 0 where
  pub starts : StartsAt clean may_recover boots me storage it.peer
  pub closed : AllClosed it.links

-- a process that has ended has its store alone
abbrev pub ended_peer : {S : Type 0} → PeerView S → PeerView S
ended_peer it = record it { site = sites.Stopped (storage_in it.site) }

module _ {S : Type 0} (may_recover : S → Stable → Type 0) (boots : S → ℕ) where
  -- what the bytes of its connections decode to is what it takes, and the frames of what it sends are
  -- what is written, once all of it is stored
  pub record LinkedTurns (inputs : List LinkInput) (old new : LinkedView S) (outputs : List (List ℕ)) (ended : List ℕ) : Type 0 where
    pub arrivals : List Arrival
    pub between : List (Option LinkView)
    pub messages : List (Message Call)
    pub hears : HearsAll old.peer.me.number inputs (hearing old.links [] []) (hearing between arrivals ended)
    pub turns : Turns may_recover boots arrivals old.peer new.peer messages
    pub writes : Writes (notice_of new.peer.election) [] messages between outputs
    pub links : new.links ≡ map (told (notice_of new.peer.election)) between

  -- Why a turn stops: memory runs out for what comes, before the server takes any; the server stops; or
  -- memory runs out for what is to be written.
  pub data StopsBy (inputs : List LinkInput) (old new : LinkedView S) : Type 0 where
    Unheard : (before : ReplicaHost S) (ran : old.peer.site ≡ sites.Runs before) (ends : new.peer ≡ ended_peer old.peer) → StopsBy inputs old new
    Failed : (arrivals : List Arrival) (between : List (Option LinkView)) (ended : List ℕ) (hears : HearsAll old.peer.me.number inputs (hearing old.links [] []) (hearing between arrivals ended))
        (stops : Stops may_recover boots arrivals old.peer new.peer) → StopsBy inputs old new
    Unwritten : (arrivals : List Arrival) (between : List (Option LinkView)) (ended : List ℕ) (hears : HearsAll old.peer.me.number inputs (hearing old.links [] []) (hearing between arrivals ended))
        (mid : PeerView S) (messages : List (Message Call)) (turns : Turns may_recover boots arrivals old.peer mid messages) (ends : new.peer ≡ ended_peer mid) → StopsBy inputs old new

  -- nothing is written, and no connection is left
  pub record LinkedStops (inputs : List LinkInput) (old new : LinkedView S) : Type 0 where
    pub why : StopsBy inputs old new
    pub closed : AllClosed new.links
