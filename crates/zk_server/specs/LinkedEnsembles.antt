-- The servers of one ensemble, and the bytes that their connections carry: in chunks of any size, cut at
-- any byte, and opened again, each time as a new connection. A number is one direction of a
-- connection; 0 is none's.
use Rattle.std.specs.Prelude.{◌≡◌, ℕ, ◌+◌, ◌<◌, ◌==◌, Bool, true, false, List, [], ◌∷◌, ◌++◌, length, drop, Some, if◌then◌else◌}
use Rattle.zab_epoch.specs.declared.stable.Stable.{Stable}
use Rattle.zab_laws.specs.Prefixes.{IsPrefix}
use Rattle.zab_model.specs.Worlds.{is_server}
use Rattle.zk_peer_links.specs.declared.link_input.LinkInput.{LinkInput}
use Rattle.zk_peer_links.specs.declared.link_input.LinkInput.TheVariants as inputs
use Rattle.zk_server.specs.Ensembles.{IsNewPeer, MayEnd, SitesAgree, stopped_on}
use Rattle.zk_server.specs.LinkedPeers.{AllClosed, LinkedStarts, LinkedStops, LinkedTurns, LinkedView, linked}
use Rattle.zk_server.specs.declared.member.Member.{Member}
use Rattle.zk_server.specs.declared.site.Site.{Site}
use Rattle.zk_server.specs.declared.site.Site.TheVariants as sites

pub record LinkedEnsemble (S : Type 0) : Type 0 where
  pub servers : ℕ → LinkedView S
  -- the bytes that were written on each connection and have not come
  pub flight : ℕ → List ℕ
  -- the connections that were opened at some time
  pub used : ℕ → Bool

pub data LinkedEvent (S : Type 0) : Type 0 where
  -- a call of `LinkedPeer::turn` that returns, and the connection on which bytes to each server go
  Turned : (number : ℕ) (inputs : List LinkInput) (line_to : ℕ → ℕ) (next : LinkedView S) (outputs : List (List ℕ)) (ended : List ℕ) → LinkedEvent S
  -- one that stops the server
  Failed : (number : ℕ) (inputs : List LinkInput) (next : LinkedView S) → LinkedEvent S
  -- the process of a server ends between two turns, or what becomes of the store of one that has stopped
  Ended : (number : ℕ) (storage : S) → LinkedEvent S
  -- `LinkedPeer::start` on the store
  Started : (number : ℕ) (next : LinkedView S) → LinkedEvent S

abbrev pub at_line : {A : Type 0} → ℕ → A → (ℕ → A) → ℕ → A
at_line line it its other = if other == line then it else its other

-- ---- what comes

abbrev pub flight_after : List LinkInput → (ℕ → List ℕ) → ℕ → List ℕ
flight_after [] flight = flight
flight_after (inputs.Opened peer line ∷ its) flight = flight_after its flight
flight_after (inputs.Brought line bytes ∷ its) flight = flight_after its (at_line line (drop (length bytes) (flight line)) flight)
flight_after (inputs.Closed line ∷ its) flight = flight_after its flight
flight_after (inputs.Lead ∷ its) flight = flight_after its flight

abbrev pub used_after : List LinkInput → (ℕ → Bool) → ℕ → Bool
used_after [] used = used
used_after (inputs.Opened peer line ∷ its) used = used_after its (at_line line true used)
used_after (inputs.Brought line bytes ∷ its) used = used_after its used
used_after (inputs.Closed line ∷ its) used = used_after its used
used_after (inputs.Lead ∷ its) used = used_after its used

-- each connection is read by one server and opened once; what it brings is the next of what was
-- written on it
abbrev pub MayCome : (ℕ → ℕ) → ℕ → List LinkInput → (ℕ → List ℕ) → (ℕ → Bool) → Type 0
MayCome reader number [] flight used = Unit {0}
MayCome reader number (inputs.Opened peer line ∷ its) flight used =
    (reader line ≡ number) × ((used line ≡ false) × MayCome reader number its flight (at_line line true used))
MayCome reader number (inputs.Brought line bytes ∷ its) flight used =
    (reader line ≡ number) × ((used line ≡ true) × (IsPrefix bytes (flight line)
    × MayCome reader number its (at_line line (drop (length bytes) (flight line)) flight) used))
MayCome reader number (inputs.Closed line ∷ its) flight used = MayCome reader number its flight used
MayCome reader number (inputs.Lead ∷ its) flight used = MayCome reader number its flight used

-- ---- what is written

-- the bytes for the servers from `peer` on that go on this connection
abbrev pub written_from : ℕ → (ℕ → ℕ) → List (List ℕ) → ℕ → List ℕ
written_from peer line_to [] line = []
written_from peer line_to (bytes ∷ outputs) line = (if line_to peer == line then bytes else []) ++ written_from (peer + 1) line_to outputs line

-- connections to two servers are two
abbrev pub Differ : (ℕ → ℕ) → Type 0
Differ line_to = (p q : ℕ) → line_to p ≡ line_to q → p ≡ q

-- ---- events

abbrev pub with_server : {S : Type 0} → ℕ → LinkedView S → (ℕ → LinkedView S) → ℕ → LinkedView S
with_server number it servers other = if other == number then it else servers other

abbrev pub after_linked : {S : Type 0} → LinkedEnsemble S → LinkedEvent S → LinkedEnsemble S
after_linked x (Turned number its line_to next outputs ended) = record {
  servers = with_server number next x.servers;
  flight = λ line. flight_after its x.flight line ++ written_from 1 line_to outputs line;
  used = used_after its x.used;
}
after_linked x (Failed number its next) = record { servers = with_server number next x.servers; flight = flight_after its x.flight; used = used_after its x.used }
after_linked x (Ended number storage) =
    record { servers = with_server number (linked (stopped_on storage (x.servers number).peer) []) x.servers; flight = x.flight; used = x.used }
after_linked x (Started number next) = record { servers = with_server number next x.servers; flight = x.flight; used = x.used }

abbrev pub after_all_linked : {S : Type 0} → LinkedEnsemble S → List (LinkedEvent S) → LinkedEnsemble S
after_all_linked x [] = x
after_all_linked x (event ∷ events) = after_all_linked (after_linked x event) events

module _ {S : Type 0} (clean : S → Type 0) (may_recover : S → Stable → Type 0) (boots : S → ℕ) (servers : ℕ) (reader : ℕ → ℕ) where
  -- no wrong answer of the store's medium has been taken as true
  pub record StartsClean (me : Member) (storage : S) (next : LinkedView S) : Type 0 where
    pub starts : LinkedStarts clean may_recover boots me storage next
    pub honest : clean starts.starts.host.host.storage

  abbrev pub MayStart : Member → Site S → LinkedView S → Type 0
  MayStart me (sites.Stopped (Some storage)) next = StartsClean me storage next
  MayStart me site next = ⊥

  abbrev pub MayHappen : LinkedEnsemble S → LinkedEvent S → Type 0
  MayHappen x (Turned number its line_to next outputs ended) =
      (is_server servers number ≡ true) × (MayCome reader number its x.flight x.used
      × (Differ line_to × LinkedTurns may_recover boots its (x.servers number) next outputs ended))
  MayHappen x (Failed number its next) =
      (is_server servers number ≡ true) × (MayCome reader number its x.flight x.used × LinkedStops may_recover boots its (x.servers number) next)
  MayHappen x (Ended number storage) = (is_server servers number ≡ true) × MayEnd clean may_recover boots servers (x.servers number).peer.site storage
  MayHappen x (Started number next) = (is_server servers number ≡ true) × MayStart (x.servers number).peer.me (x.servers number).peer.site next

  abbrev pub MayRun : LinkedEnsemble S → List (LinkedEvent S) → Type 0
  MayRun x [] = Unit {0}
  MayRun x (event ∷ events) = MayHappen x event × MayRun (after_linked x event) events

  pub record IsNew (x : LinkedEnsemble S) : Type 0 where
    pub few : servers < 256
    pub peers : (number : ℕ) → IsNewPeer clean may_recover boots servers number (x.servers number).peer
    pub closed : (number : ℕ) → AllClosed (x.servers number).links
    pub flight : (line : ℕ) → x.flight line ≡ []
    pub used : x.used 0 ≡ true

-- Of what two running servers have delivered, each after any events, one is a prefix of the other.
abbrev pub LinkedPeersAgree : {S : Type 0} → (S → Type 0) → (S → Stable → Type 0) → (S → ℕ) → ℕ → Type 0
LinkedPeersAgree {S} clean may_recover boots servers =
    (reader : ℕ → ℕ) (x : LinkedEnsemble S) (before between : List (LinkedEvent S)) → IsNew clean may_recover boots servers reader x
    → MayRun clean may_recover boots servers reader x (before ++ between) → (p q : ℕ)
    → is_server servers p ≡ true → is_server servers q ≡ true
    → SitesAgree clean may_recover boots servers ((after_all_linked x before).servers p).peer.site ((after_all_linked x (before ++ between)).servers q).peer.site
