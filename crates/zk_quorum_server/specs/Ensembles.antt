-- The servers of one ensemble with their clients, and what their links carry. Their turns, stops and
-- starts, in any order; a link loses what it carries once it is closed, and a link that is opened again
-- is a new one.
use Rattle.std.specs.Prelude.{◌≡◌, ◌<◌, ℕ, ℤ, ◌==◌, true, List, [], ◌∷◌, ◌++◌, Some, if◌then◌else◌}
use Rattle.zab_epoch.specs.declared.message.Message.{Message}
use Rattle.zab_epoch.specs.declared.stable.Stable.{Stable}
use Rattle.zab_laws.specs.Prefixes.{IsPrefix}
use Rattle.zab_model.specs.Worlds.{is_server}
use Rattle.zk_requests.specs.declared.call.Call.{Call}
use Rattle.zk_peer_links.specs.declared.arrival.Arrival.{Arrival}
use Rattle.zk_server.specs.declared.member.Member.{Member}
use Rattle.zk_server.specs.declared.site.Site.{Site}
use Rattle.zk_server.specs.declared.site.Site.TheVariants as sites
use Rattle.zk_server.specs.Ensembles.{arrived, posted, stopped_on, IsNewPeer, MayEnd, SitesAgree}
use Rattle.zk_server.specs.Mail.{brought_on}
use Rattle.zk_server.specs.Peers.{PeerView}
use Rattle.zk_quorum_server.specs.Servers.{ServerView, StartsAt, Stops, Turns}

pub record Ensemble (S : Type 0) : Type 0 where
  pub members : ℕ → ServerView S
  -- what was sent on each connection and has not arrived
  pub flight : ℕ → List (Message Call)

pub data Event (S : Type 0) : Type 0 where
  -- a call of `Server::turn` that returns, and the connection on which messages to each server go
  Turned : (number : ℕ) (before : ServerView S) (arrivals : List Arrival) (now : ℤ) (line_to : ℕ → ℕ) (next : ServerView S) (messages : List (Message Call)) → Event S
  -- one that stops the server
  Failed : (number : ℕ) (before : ServerView S) (arrivals : List Arrival) (next : ServerView S) → Event S
  -- the process of a server ends between two turns, or what becomes of the store of one that has stopped
  Ended : (number : ℕ) (storage : S) → Event S
  -- `Server::start` on the store
  Started : (number : ℕ) (next : ServerView S) → Event S

abbrev pub with_server : {S : Type 0} → ℕ → ServerView S → (ℕ → ServerView S) → ℕ → ServerView S
with_server number it members other = if other == number then it else members other

-- a process that has ended has its store alone
abbrev pub ended_on : {S : Type 0} → S → ServerView S → ServerView S
ended_on storage it = record it { peer = stopped_on storage it.peer }

abbrev pub after_event : {S : Type 0} → Ensemble S → Event S → Ensemble S
after_event x (Turned number before arrivals now line_to next messages) = record {
  members = with_server number next x.members;
  flight = posted line_to messages (arrived arrivals x.flight);
}
after_event x (Failed number before arrivals next) = record { members = with_server number next x.members; flight = arrived arrivals x.flight }
after_event x (Ended number storage) = record { members = with_server number (ended_on storage (x.members number)) x.members; flight = x.flight }
after_event x (Started number next) = record { members = with_server number next x.members; flight = x.flight }

abbrev pub after_events : {S : Type 0} → Ensemble S → List (Event S) → Ensemble S
after_events x [] = x
after_events x (event ∷ events) = after_events (after_event x event) events

module _ {S : Type 0} (clean : S → Type 0) (may_recover : S → Stable → Type 0) (boots : S → ℕ) (servers : ℕ) where
  -- what arrives on a connection is the first part of what was sent on it
  abbrev pub Brings : Ensemble S → List Arrival → Type 0
  Brings x arrivals = (line : ℕ) → IsPrefix (brought_on arrivals line) (x.flight line)

  -- no wrong answer of the store's medium has been taken as true
  pub record StartsClean (me : Member) (storage : S) (next : ServerView S) : Type 0 where
    pub starts : StartsAt clean may_recover boots me storage next
    pub honest : clean starts.peer.host.host.storage

  abbrev pub MayStart : Member → Site S → ServerView S → Type 0
  MayStart me (sites.Stopped (Some storage)) next = StartsClean me storage next
  MayStart me site next = ⊥

  -- the same host, but for the watches of its tree
  abbrev pub IsSameSite : Site S → Site S → Type 0
  IsSameSite (sites.Runs host) (sites.Runs was) = (host.host ≡ was.host) × (host.tags ≡ was.tags)
  IsSameSite (sites.Stopped storage) (sites.Stopped was) = storage ≡ was
  IsSameSite site was = ⊥

  -- Between two turns clients may open connections and send anything on them, and connections that
  -- are over may be removed.
  pub record IsBeside (it was : PeerView S) : Type 0 where
    pub me : it.me ≡ was.me
    pub election : it.election ≡ was.election
    pub site : IsSameSite it.site was.site

  abbrev pub MayHappen : Ensemble S → Event S → Type 0
  MayHappen x (Turned number before arrivals now line_to next messages) =
      (is_server servers number ≡ true) × (Brings x arrivals × (IsBeside before.peer (x.members number).peer × Turns may_recover boots arrivals now before next messages))
  MayHappen x (Failed number before arrivals next) =
      (is_server servers number ≡ true) × (Brings x arrivals × (IsBeside before.peer (x.members number).peer × Stops may_recover boots arrivals before next))
  MayHappen x (Ended number storage) = (is_server servers number ≡ true) × MayEnd clean may_recover boots servers (x.members number).peer.site storage
  MayHappen x (Started number next) = (is_server servers number ≡ true) × MayStart (x.members number).peer.me (x.members number).peer.site next

  abbrev pub MayRun : Ensemble S → List (Event S) → Type 0
  MayRun x [] = Unit {0}
  MayRun x (event ∷ events) = MayHappen x event × MayRun (after_event x event) events

  pub record IsNew (x : Ensemble S) : Type 0 where
    pub few : servers < 256
    pub members : (number : ℕ) → IsNewPeer clean may_recover boots servers number (x.members number).peer
    pub flight : (line : ℕ) → x.flight line ≡ []

  -- Of what two running servers have delivered, each after any events, one is a prefix of the other.
  abbrev pub ServersAgree : Type 0
  ServersAgree =
      (x : Ensemble S) (before between : List (Event S)) → IsNew x → MayRun x (before ++ between) → (p q : ℕ)
      → is_server servers p ≡ true → is_server servers q ≡ true
      → SitesAgree clean may_recover boots servers ((after_events x before).members p).peer.site ((after_events x (before ++ between)).members q).peer.site
