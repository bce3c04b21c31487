-- What a turn writes to a server's links.
use Rattle.std.specs.Prelude.{◌≡◌, ℕ, ◌+◌, ◌<◌, ◌==◌, Bool, List, [], ◌∷◌, ◌++◌, length, map, filter, get_or, Option, Some, None, if◌then◌else◌}
use Rattle.std.specs.List.{AllByRecursion}
use Rattle.zab_epoch.specs.declared.message.Message.{Message}
use Rattle.zk_peer_links.specs.Links.{LinkView, link_at}
use Rattle.zk_peer_links.specs.Notices.{is_same}
use Rattle.zk_peer_links.specs.Packets.{frames_in, HasFrameIn}
use Rattle.zk_peer_links.specs.declared.notice.Notice.{Notice}
use Rattle.zk_peer_links.specs.declared.packet.Packet.{Packet}
use Rattle.zk_peer_links.specs.declared.packet.Packet.TheVariants as packets
use Rattle.zk_peer_links.specs.declared.session_notice.SessionNotice.{SessionNotice}
use Rattle.zk_requests.specs.declared.call.Call.{Call}

-- the notice, if it is not the last that was written
abbrev pub news_for : Option Notice → Notice → List Packet
news_for None notice = packets.Notice notice ∷ []
news_for (Some told) notice = if is_same told notice then [] else packets.Notice notice ∷ []

abbrev pub is_for : ℕ → Message Call → Bool
is_for peer message = message.addressee == peer

-- the messages to a peer, in order
abbrev pub those_for : ℕ → List (Message Call) → List Packet
those_for peer messages = map packets.Message (filter (is_for peer) messages)

abbrev pub is_to : ℕ → SessionNotice → Bool
is_to peer notice = notice.addressee == peer

-- the notices about sessions to a peer, in order
abbrev pub sessions_for : ℕ → List SessionNotice → List Packet
sessions_for peer sessions = map packets.Session (filter (is_to peer) sessions)

-- the notice, those about sessions, and then the messages
abbrev pub packets_for : ℕ → Notice → List SessionNotice → List (Message Call) → Option LinkView → List Packet
packets_for peer notice sessions messages None = []
packets_for peer notice sessions messages (Some link) = news_for link.told notice ++ (sessions_for peer sessions ++ those_for peer messages)

abbrev pub told : Notice → Option LinkView → Option LinkView
told notice None = None
told notice (Some link) = Some (record link { told = Some notice })

pub record IsWritten (its : List Packet) (bytes : List ℕ) : Type 0 where
  pub bytes_are : bytes ≡ frames_in its
  pub each : AllByRecursion HasFrameIn its

-- the frames of packets are appended
pub record Appends (its : List Packet) (old new : List ℕ) : Type 0 where
  pub whole : new ≡ old ++ frames_in its
  pub each : AllByRecursion HasFrameIn its

abbrev pub listed : {A : Type 0} → Option A → List A
listed None = []
listed (Some x) = x ∷ []

-- the bytes for each server
pub record Writes (notice : Notice) (sessions : List SessionNotice) (messages : List (Message Call)) (links : List (Option LinkView)) (outputs : List (List ℕ)) : Type 0 where
  pub count : length outputs ≡ length links
  pub each : (place : ℕ) → place < length links → IsWritten (packets_for (place + 1) notice sessions messages (link_at links place)) (get_or outputs place [])
