-- What a link carries: Zab's messages, the notices of elections and those about sessions, each in a
-- frame, in chunks of any size.
use Rattle.std.specs.Prelude.{◌≡◌, ◌⊎◌, ℕ, ◌≤◌, List, [], ◌∷◌, ◌++◌, length, drop, Some, None, Ok, Err}
use Rattle.std.specs.List.{flat_map, AllByRecursion}
use Rattle.zab_epoch.specs.Shortness.{IsShortBody}
use Rattle.zab_epoch.specs.declared.message.Message.{Message}
use Rattle.zab_frames.specs.Frames.{framed, first_in}
use Rattle.zab_frames.specs.Messages.{contents_of}
use Rattle.zab_frames.specs.Streams.{HasFrame, IsPartial}
use Rattle.zab_frames.specs.declared.fault.FrameFault.{FrameFault}
use Rattle.zk_peer_links.specs.Notices.{contents_of_notice, IsNotice}
use Rattle.zk_peer_links.specs.SessionNotices.{contents_of_session, IsSessionNotice}
use Rattle.zk_peer_links.specs.declared.notice.Notice.{Notice}
use Rattle.zk_peer_links.specs.declared.packet.Packet.{Packet}
use Rattle.zk_peer_links.specs.declared.packet.Packet.TheVariants as packets
use Rattle.zk_peer_links.specs.declared.packet.Step.{Step}
use Rattle.zk_peer_links.specs.declared.packet.Step.TheVariants as steps
use Rattle.zk_peer_links.specs.declared.session_notice.SessionNotice.{SessionNotice}
use Rattle.zk_requests.specs.declared.call.Call.{Call}

abbrev pub contents_in : Packet → List ℕ
contents_in (packets.Message message) = contents_of message
contents_in (packets.Notice notice) = contents_of_notice notice
contents_in (packets.Session notice) = contents_of_session notice

abbrev pub frame_in : Packet → List ℕ
frame_in packet = framed (contents_in packet)

abbrev pub frames_in : List Packet → List ℕ
frames_in its = flat_map frame_in its

-- every packet of the types has a frame, if there is memory for it
abbrev pub HasFrameIn : Packet → Type 0
HasFrameIn (packets.Message message) = HasFrame message
HasFrameIn (packets.Notice notice) = IsNotice notice
HasFrameIn (packets.Session notice) = IsSessionNotice notice

-- The bytes that have come and were not taken, and then these, are the frames of the packets, and then
-- the next bytes that wait.
pub record Decodes (rest bytes : List ℕ) (its : List Packet) (next : List ℕ) : Type 0 where
  pub whole : rest ++ bytes ≡ frames_in its ++ next
  pub each : AllByRecursion HasFrameIn its

abbrev pub IsNoNotice : List ℕ → Type 0
IsNoNotice contents = (notice : Notice) → IsNotice notice → contents ≡ contents_of_notice notice → ⊥

abbrev pub IsNoSession : List ℕ → Type 0
IsNoSession contents = (notice : SessionNotice) → IsSessionNotice notice → contents ≡ contents_of_session notice → ⊥

abbrev pub IsNoPacket : List ℕ → Type 0
IsNoPacket contents = (packet : Packet) → HasFrameIn packet → contents ≡ contents_in packet → ⊥

-- the first frame is none, or not that of a packet
abbrev pub IsWrong : List ℕ → Type 0
IsWrong rest =
    ((fault : FrameFault) × (first_in rest ≡ Err fault))
    ⊎ ((contents : List ℕ) × ((first_in rest ≡ Ok (Some contents)) × IsNoPacket contents))

-- ---- the messages among packets

abbrev pub message_in : Packet → List (Message Call)
message_in (packets.Message message) = message ∷ []
message_in (packets.Notice notice) = []
message_in (packets.Session notice) = []

abbrev pub messages_in : List Packet → List (Message Call)
messages_in its = flat_map message_in its

-- ---- one frame

abbrev pub IsShortIn : Packet → Type 0
IsShortIn (packets.Message message) = IsShortBody message.body
IsShortIn (packets.Notice notice) = Unit {0}
IsShortIn (packets.Session notice) = Unit {0}

-- the frame of the packet comes first, and has this number of bytes
pub record BeginsWith (bytes : List ℕ) (size : ℕ) (packet : Packet) : Type 0 where
  pub whole : bytes ≡ frame_in packet ++ drop size bytes
  pub fits : HasFrameIn packet
  pub long : size ≤ length bytes

-- the first frame, if there is one, is not that of a notice
abbrev pub HasNoNotice : List ℕ → Type 0
HasNoNotice bytes = (contents : List ℕ) → first_in bytes ≡ Ok (Some contents) → IsNoNotice contents

-- nor that of a notice about a session
abbrev pub HasNoSession : List ℕ → Type 0
HasNoSession bytes = (contents : List ℕ) → first_in bytes ≡ Ok (Some contents) → IsNoSession contents

-- the first frame is taken as the packet
pub record TakesFirst (rest : List ℕ) (packet : Packet) (next : List ℕ) : Type 0 where
  pub whole : rest ≡ frame_in packet ++ next
  pub has : HasFrameIn packet
  pub short : IsShortIn packet

abbrev pub StepsTo : List ℕ → Step → List ℕ → Type 0
StepsTo rest (steps.Took packet) next = TakesFirst rest packet next
StepsTo rest steps.Waits next = IsPartial rest × (next ≡ rest)
StepsTo rest steps.Wrong next = IsWrong rest

-- ---- laws

-- What is read of the frames of packets, in whichever chunks, is the first of them, and no frame is
-- wrong.
pub record IsExact (sent : List Packet) (more : List ℕ) (found : List Packet) (rest : List ℕ) : Type 0 where
  pub left : List Packet
  pub sent_is : sent ≡ found ++ left
  pub waits : rest ++ more ≡ frames_in left
  pub right : IsWrong rest → ⊥

abbrev pub LinksAreExact : Type 0
LinksAreExact =
    (sent found : List Packet) (rest bytes more next : List ℕ) → AllByRecursion HasFrameIn sent
    → frames_in sent ≡ rest ++ bytes ++ more → Decodes rest bytes found next → IsExact sent more found next

-- what two chunks decode to is what they decode to as one
abbrev pub LinksCompose : Type 0
LinksCompose =
    (rest bytes more between next : List ℕ) (first later : List Packet)
    → Decodes rest bytes first between → Decodes between more later next → Decodes rest (bytes ++ more) (first ++ later) next
