-- How much is taken of a connection at once: no client keeps others waiting for more.
use Rattle.std.specs.Prelude.{◌≡◌, ℕ, ◌+◌, ◌≤◌, List, [], ◌∷◌, length, Option, Some, Result, Ok}
use Rattle.zk_client_session.specs.declared.ask.Action.{Action}
use Rattle.zk_client_session.specs.declared.ask.Action.TheVariants.{Asks}
use Rattle.zk_client_session.specs.declared.ask.Ask.TheVariants.{SetWatches}
use Rattle.zk_frames.specs.Frames.{most_bytes, next_frame_in}
use Rattle.zk_frames.specs.declared.fault.FrameFault.{FrameFault}
use Rattle.zk_connections.specs.Inputs.{taken_of}
use Rattle.zk_connections.specs.declared.connection.Connection.{Connection}
use Rattle.zk_connections.specs.declared.input.Taken.{Taken}
use Rattle.zk_connections.specs.declared.input.Taken.TheVariants as taken

-- ---- a frame

-- `jute.maxbuffer`: a longer frame is a fault, and its connection closes
abbrev pub IsCapped : Result (Option ℕ) FrameFault → Type 0
IsCapped (Ok (Some n)) = n ≤ most_bytes
IsCapped other = Unit {0}

abbrev pub FramesAreCapped : Type 0
FramesAreCapped = (input : List ℕ) → IsCapped (next_frame_in input)

-- ---- a turn

-- Frames are taken one after another. In between, anything may happen to the connection but another
-- turn.
abbrev pub TakesInTurn : List Taken → ℕ → Type 0
TakesInTurn [] work = Unit {0}
TakesInTurn (one ∷ rest) work =
    (old : Connection) × (new : Connection) × (old.work ≡ work) × (taken_of old ≡ (new, Some one)) × TakesInTurn rest new.work

-- the frames of a session among them
abbrev pub frames_in : List Taken → ℕ
frames_in [] = 0
frames_in (taken.Acts action ∷ rest) = 1 + frames_in rest
frames_in (other ∷ rest) = frames_in rest

-- and the watches that these are to set
abbrev pub watches_by : Action → ℕ
watches_by (Asks (SetWatches session zxid auths watches) expected) = length watches
watches_by other = 0

abbrev pub watches_in : List Taken → ℕ
watches_in [] = 0
watches_in (taken.Acts action ∷ rest) = watches_by action + watches_in rest
watches_in (other ∷ rest) = watches_in rest

-- no more than there is work left
abbrev pub TurnsAreBounded : Type 0
TurnsAreBounded = (frames : List Taken) (work : ℕ) → TakesInTurn frames work → (frames_in frames ≤ work) × (watches_in frames ≤ work)
