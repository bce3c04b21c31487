-- Streams of frames: what comes on one direction of a connection between two servers, in any
-- chunks.
use Rattle.std.specs.Prelude.{◌≡◌, ℕ, ◌+◌, ◌<◌, ◌^◌, List, [], ◌++◌, length, drop, Option, Some, None, Ok, Err}
use Rattle.std.specs.List.{flat_map, AllByRecursion}
use Rattle.zk_records.specs.Sizes.{capped}
use Rattle.zk_requests.specs.declared.call.Call.{Call}
use Rattle.zab_epoch.specs.Shortness.{IsShortBody}
use Rattle.zab_epoch.specs.declared.message.Message.{Message}
use Rattle.zab_frames.specs.declared.fault.BadFrame.{BadFrame}
use Rattle.zab_frames.specs.declared.fault.DecodeFault.{DecodeFault}
use Rattle.zab_frames.specs.declared.fault.DecodeFault.TheVariants as decode_faults
use Rattle.zab_frames.specs.declared.fault.FrameFault.{FrameFault}
use Rattle.zab_frames.specs.declared.fault.FrameFault.TheVariants as faults
use Rattle.zab_frames.specs.Frames.{framed, first_in}
use Rattle.zab_frames.specs.Messages.{contents_of}
use Rattle.zab_frames.specs.Ranges.{IsMessage}

abbrev pub frame_of : Message Call → List ℕ
frame_of message = framed (contents_of message)

abbrev pub frames_of : List (Message Call) → List ℕ
frames_of messages = flat_map frame_of messages

-- every message of the types has a frame, if there is memory for it
pub record HasFrame (message : Message Call) : Type 0 where
  pub fits : IsMessage message
  pub short : length (contents_of message) < 2 ^ 63

-- The bytes that have come and were not taken, and then these, are the frames of the messages, and
-- then the next bytes that wait.
pub record Decodes (rest bytes : List ℕ) (messages : List (Message Call)) (next : List ℕ) : Type 0 where
  pub whole : rest ++ bytes ≡ frames_of messages ++ next
  pub each : AllByRecursion HasFrame messages

-- the messages are the first ones of those that come
abbrev pub Begins : List ℕ → List ℕ → List (Message Call) → Type 0
Begins rest bytes messages = (next : List ℕ) × Decodes rest bytes messages next

-- no whole frame waits
abbrev pub IsPartial : List ℕ → Type 0
IsPartial rest = first_in rest ≡ Ok None

abbrev pub IsNoMessage : List ℕ → Type 0
IsNoMessage contents =
    (message : Message Call) → HasFrame message → contents ≡ contents_of message → ⊥

-- the contents are those of the message
pub record IsReadAs (contents : List ℕ) (message : Message Call) : Type 0 where
  pub spelled : contents ≡ contents_of message
  pub fits : IsMessage message
  pub short : IsShortBody message.body

-- the first frame is none, or not that of a message
abbrev pub IsBroken : List ℕ → FrameFault → Type 0
IsBroken rest faults.Contents =
    (contents : List ℕ) × ((first_in rest ≡ Ok (Some contents)) × IsNoMessage contents)
IsBroken rest fault = first_in rest ≡ Err fault

-- ---- the decoder

-- how many bytes were taken as frames, those that wait, and the fault at which it stopped
pub record Stream : Type 0 where
  pub taken : ℕ
  pub rest : List ℕ
  pub fault : Option BadFrame

abbrev pub new_stream : Stream
new_stream = record { taken = 0; rest = []; fault = None }

abbrev pub more_by : Option BadFrame → List ℕ → List ℕ → List ℕ
more_by None rest bytes = rest ++ bytes
more_by (Some fault) rest bytes = rest

-- a stream that has a fault takes no more bytes
abbrev pub with_bytes : List ℕ → Stream → Stream
with_bytes bytes stream = record {
  taken = stream.taken;
  rest = more_by stream.fault stream.rest bytes;
  fault = stream.fault;
}

-- the first frame is taken as the message
pub record Takes (old : Stream) (message : Message Call) (new : Stream) : Type 0 where
  pub sound : old.fault ≡ None
  pub whole : old.rest ≡ frame_of message ++ new.rest
  pub frame : HasFrame message
  pub taken : new.taken ≡ capped (old.taken + length (frame_of message))
  pub still : new.fault ≡ None

-- no whole frame waits
pub record Waits (old new : Stream) : Type 0 where
  pub sound : old.fault ≡ None
  pub partial : IsPartial old.rest
  pub same : new ≡ old

abbrev pub IsFaultAt : Option BadFrame → BadFrame → Stream → Type 0
IsFaultAt None bad stream = (bad.place ≡ stream.taken) × IsBroken stream.rest bad.fault
IsFaultAt (Some earlier) bad stream = bad ≡ earlier

abbrev pub stopped_at : BadFrame → Stream → Stream
stopped_at bad stream = record { taken = stream.taken; rest = stream.rest; fault = Some bad }

-- the stream has a fault, and keeps it
pub record Breaks (old : Stream) (bad : BadFrame) (new : Stream) : Type 0 where
  pub fault : IsFaultAt old.fault bad old
  pub stopped : new ≡ stopped_at bad old

-- the property of the place of a fault
abbrev pub IfBroken : DecodeFault → (BadFrame → Type 0) → Type 0
IfBroken (decode_faults.Broken bad) P = P bad
IfBroken decode_faults.NoMemory P = Unit {0}

-- without the first bytes
abbrev pub without : ℕ → Stream → Stream
without count stream = record {
  taken = capped (stream.taken + count);
  rest = drop count stream.rest;
  fault = stream.fault;
}

abbrev pub bad_at : Stream → FrameFault → BadFrame
bad_at stream fault = record { place = stream.taken; fault = fault }

-- ---- laws

-- what two chunks decode to is what they decode to as one
abbrev pub DecodingComposes : Type 0
DecodingComposes =
    (rest bytes more between next : List ℕ) (messages others : List (Message Call))
    → Decodes rest bytes messages between → Decodes between more others next → Decodes rest (bytes ++ more) (messages ++ others) next

-- the messages found are the first ones that were sent, the bytes that wait begin the frames of the
-- others, and there is no fault
abbrev pub IsExact : List (Message Call) → List ℕ → List (Message Call) → List ℕ → Type 0
IsExact sent more found rest =
    (left : List (Message Call)) × ((sent ≡ found ++ left)
    × ((rest ++ more ≡ frames_of left) × ((fault : FrameFault) → IsBroken rest fault → ⊥)))

-- every prefix of the frames of messages decodes to a prefix of the messages
abbrev pub DecodingIsExact : Type 0
DecodingIsExact =
    (sent found : List (Message Call)) (bytes more rest : List ℕ) → AllByRecursion HasFrame sent
    → frames_of sent ≡ bytes ++ more → Decodes [] bytes found rest → IsExact sent more found rest

-- two messages have different frames, and no frame is a prefix of another
abbrev pub FramesAreOfOne : Type 0
FramesAreOfOne =
    (first second : Message Call) (rest others : List ℕ) → HasFrame first → HasFrame second
    → frame_of first ++ rest ≡ frame_of second ++ others → (first ≡ second) × (rest ≡ others)
