-- The servers of one ensemble, and what their links carry. Their turns, stops and starts, in any
-- order; a link loses what it carries once it is closed, and a link that is opened again is a new one.
use Rattle.std.specs.Prelude.{◌≡◌, ◌⊎◌, ◌<◌, ℕ, ◌==◌, true, List, [], ◌∷◌, ◌++◌, length, drop, filter, Some, None, if◌then◌else◌}
use Rattle.zab_epoch.specs.declared.message.Message.{Message}
use Rattle.zab_epoch.specs.declared.stable.Stable.{Stable}
use Rattle.zab_laws.specs.Prefixes.{IsPrefix}
use Rattle.zab_model.specs.Worlds.{is_server}
use Rattle.zk_host.specs.Delivered.{delivered_in}
use Rattle.zk_requests.specs.declared.call.Call.{Call}
use Rattle.zk_peer_links.specs.declared.arrival.Arrival.{Arrival}
use Rattle.zk_server.specs.declared.member.Member.{Member}
use Rattle.zk_server.specs.declared.site.Site.{Site}
use Rattle.zk_server.specs.declared.site.Site.TheVariants as sites
use Rattle.zk_server.specs.Mail.{brought_on}
use Rattle.zk_server.specs.Peers.{PeerView, StartsAt, Stops, Turns}
use Rattle.zk_server_laws.specs.Turns.{Narrows}

pub record Ensemble (S : Type 0) : Type 0 where
  pub peers : ℕ → PeerView S
  -- what was sent on each connection and has not arrived
  pub flight : ℕ → List (Message Call)

pub data Event (S : Type 0) : Type 0 where
  -- a call of `QuorumPeer::turn` that returns, and the connection on which messages to each server go
  Turned : (number : ℕ) (arrivals : List Arrival) (line_to : ℕ → ℕ) (next : PeerView S) (messages : List (Message Call)) → Event S
  -- one that stops the server
  Failed : (number : ℕ) (arrivals : List Arrival) (next : PeerView S) → Event S
  -- the process of a server ends between two turns, or what becomes of the store of one that has stopped
  Ended : (number : ℕ) (storage : S) → Event S
  -- `QuorumPeer::start` on the store
  Started : (number : ℕ) (next : PeerView S) → Event S

abbrev pub with_peer : {S : Type 0} → ℕ → PeerView S → (ℕ → PeerView S) → ℕ → PeerView S
with_peer number it peers other = if other == number then it else peers other

abbrev pub stopped_on : {S : Type 0} → S → PeerView S → PeerView S
stopped_on storage it = record it { site = sites.Stopped (Some storage) }

abbrev pub arrived : List Arrival → (ℕ → List (Message Call)) → ℕ → List (Message Call)
arrived arrivals flight line = drop (length (brought_on arrivals line)) (flight line)

-- each message goes on the connection to its addressee
abbrev pub posted : (ℕ → ℕ) → List (Message Call) → (ℕ → List (Message Call)) → ℕ → List (Message Call)
posted line_to messages flight line = flight line ++ filter (λ message. line_to message.addressee == line) messages

abbrev pub after_event : {S : Type 0} → Ensemble S → Event S → Ensemble S
after_event x (Turned number arrivals line_to next messages) = record {
  peers = with_peer number next x.peers;
  flight = posted line_to messages (arrived arrivals x.flight);
}
after_event x (Failed number arrivals next) = record { peers = with_peer number next x.peers; flight = arrived arrivals x.flight }
after_event x (Ended number storage) = record { peers = with_peer number (stopped_on storage (x.peers number)) x.peers; flight = x.flight }
after_event x (Started number next) = record { peers = with_peer number next x.peers; flight = x.flight }

abbrev pub after_events : {S : Type 0} → Ensemble S → List (Event S) → Ensemble S
after_events x [] = x
after_events x (event ∷ events) = after_events (after_event x event) events

module _ {S : Type 0} (clean : S → Type 0) (may_recover : S → Stable → Type 0) (boots : S → ℕ) (servers : ℕ) where
  -- what arrives on a connection is the first part of what was sent on it
  abbrev pub Brings : Ensemble S → List Arrival → Type 0
  Brings x arrivals = (line : ℕ) → IsPrefix (brought_on arrivals line) (x.flight line)

  -- nothing new is recovered, and no start is forgotten
  abbrev pub MayEnd : Site S → S → Type 0
  MayEnd (sites.Runs host) storage = Narrows may_recover boots host.host.storage storage
  MayEnd (sites.Stopped (Some kept)) storage = Narrows may_recover boots kept storage
  MayEnd (sites.Stopped None) storage = ⊥

  -- no wrong answer of the store's medium has been taken as true
  pub record StartsClean (me : Member) (storage : S) (next : PeerView S) : Type 0 where
    pub starts : StartsAt clean may_recover boots me storage next
    pub honest : clean starts.host.host.storage

  abbrev pub MayStart : Member → Site S → PeerView S → Type 0
  MayStart me (sites.Stopped (Some storage)) next = StartsClean me storage next
  MayStart me site next = ⊥

  abbrev pub MayHappen : Ensemble S → Event S → Type 0
  MayHappen x (Turned number arrivals line_to next messages) =
      (is_server servers number ≡ true) × (Brings x arrivals × Turns may_recover boots arrivals (x.peers number) next messages)
  MayHappen x (Failed number arrivals next) =
      (is_server servers number ≡ true) × (Brings x arrivals × Stops may_recover boots arrivals (x.peers number) next)
  MayHappen x (Ended number storage) = (is_server servers number ≡ true) × MayEnd (x.peers number).site storage
  MayHappen x (Started number next) = (is_server servers number ≡ true) × MayStart (x.peers number).me (x.peers number).site next

  abbrev pub MayRun : Ensemble S → List (Event S) → Type 0
  MayRun x [] = Unit {0}
  MayRun x (event ∷ events) = MayHappen x event × MayRun (after_event x event) events

  abbrev pub no_stable : Stable
  no_stable = record { promised = 0; current = 0; history = [] }

  -- a server that has never started, on a store that recovers that nothing is stored
  abbrev pub IsNewSite : Site S → Type 0
  IsNewSite (sites.Stopped (Some storage)) = (found : Stable) → may_recover storage found → found ≡ no_stable
  IsNewSite site = ⊥

  pub record IsNewPeer (number : ℕ) (it : PeerView S) : Type 0 where
    pub me : it.me ≡ record { number = number; servers = servers }
    pub site : IsNewSite it.site

  pub record IsNew (x : Ensemble S) : Type 0 where
    pub few : servers < 256
    pub peers : (number : ℕ) → IsNewPeer number (x.peers number)
    pub flight : (line : ℕ) → x.flight line ≡ []

  abbrev pub SitesAgree : Site S → Site S → Type 0
  SitesAgree (sites.Runs one) (sites.Runs other) =
      IsPrefix (delivered_in one.host.state) (delivered_in other.host.state) ⊎ IsPrefix (delivered_in other.host.state) (delivered_in one.host.state)
  SitesAgree one other = Unit {0}

  -- Of what two running servers have delivered, each after any events, one is a prefix of the other.
  abbrev pub PeersAgree : Type 0
  PeersAgree =
      (x : Ensemble S) (before between : List (Event S)) → IsNew x → MayRun x (before ++ between) → (p q : ℕ)
      → is_server servers p ≡ true → is_server servers q ≡ true
      → SitesAgree ((after_events x before).peers p).site ((after_events x (before ++ between)).peers q).site
