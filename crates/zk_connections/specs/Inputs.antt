-- What is taken of a connection's input: frames, one after another. `zookeeper.jute`, module
-- `org.apache.zookeeper.proto`.
use Rattle.std.specs.Prelude.{ℕ, List, ◌++◌, ◌+◌, length, take, drop, nat_lt, Bool, true, not, ◌&&◌, ◌||◌, nat_eq, Option, Some, None, Result, Ok, Err, if◌then◌else◌}
use Rattle.zk_connections.specs.Words.{word_in}
use Rattle.zk_connections.specs.declared.connection.Connection.{Connection}
use Rattle.zk_connections.specs.declared.connection.Phase.{Phase}
use Rattle.zk_connections.specs.declared.connection.Phase.TheVariants.{New, Connecting, Connected}
use Rattle.zk_connections.specs.declared.input.Taken.{Taken}
use Rattle.zk_connections.specs.declared.input.Taken.TheVariants as taken
use Rattle.zk_connections.specs.declared.word.Word.{Word}
use Rattle.zk_frames.specs.Frames.{most_bytes, next_frame_in}
use Rattle.zk_frames.specs.Reading.{connect_request_in}
use Rattle.zk_frames.specs.declared.fault.FrameFault.{FrameFault}
use Rattle.zk_frames.specs.declared.records.ConnectRequest.{ConnectRequest}
use Rattle.zk_jute.specs.declared.fault.JuteFault.{JuteFault}
use Rattle.zk_client_session.specs.Links.{action_of}
use Rattle.zk_client_session.specs.Parts.{left_by, split}
use Rattle.zk_client_session.specs.Replies.{closes_by, closes_after}
use Rattle.zk_client_session.specs.declared.ask.Action.{Action}
use Rattle.zk_client_session.specs.declared.ask.Action.TheVariants as actions
use Rattle.zk_client_session.specs.declared.link.Link.{Link}

-- ---- bytes

-- bytes after the end are ignored
abbrev pub heard : List ℕ → Connection → Connection
heard bytes it = if it.ends then it else record it { input = it.input ++ bytes }

-- the bytes of the longest frame, with its length
abbrev pub longest_frame : ℕ
longest_frame = 4 + most_bytes

-- no more is read while a whole frame may wait
abbrev pub wants_input : Connection → Bool
wants_input it = not it.ends && nat_lt (length it.input) longest_frame

-- the contents of the first frame, and what follows it
abbrev pub frame_in : ℕ → List ℕ → List ℕ
frame_in n input = take n (drop 4 input)

abbrev pub without_frame : ℕ → Connection → Connection
without_frame n it = record it { input = drop (4 + n) it.input }

-- ---- the first frame

abbrev pub broken : Connection → Connection × Option Taken
broken it = (record it { ends = true }, Some taken.Breaks)

abbrev pub connects : Result ConnectRequest JuteFault → ℕ → Connection → Connection × Option Taken
connects (Ok request) n it = (record (without_frame n it) { phase = Connecting }, Some (taken.Connects request))
connects (Err fault) n it = broken it

abbrev pub taken_connect : ℕ → Connection → Connection × Option Taken
taken_connect n it = connects (connect_request_in (frame_in n it.input)) n it

abbrev pub taken_opening : Result (Option ℕ) FrameFault → Connection → Connection × Option Taken
taken_opening (Ok (Some n)) it = taken_connect n it
taken_opening (Ok None) it = (it, None)
taken_opening (Err fault) it = broken it

abbrev pub taken_word : Option Word → Connection → Connection × Option Taken
taken_word (Some word) it = (record it { ends = true }, Some (taken.Word word))
taken_word None it = taken_opening (next_frame_in it.input) it

-- a four-letter word, or a connect request
abbrev pub taken_first : Connection → Connection × Option Taken
taken_first it = taken_word (word_in it.input) it

-- ---- the frames of a session

-- closeSession, a failed authentication and a frame without a whole header are the last
abbrev pub ends_by : Action → Bool
ends_by (actions.Replies immediate) = closes_after immediate
ends_by (actions.Asks ask expected) = closes_by expected.kind
ends_by actions.Closes = true

-- A part of an action is taken, or all that is left of it. Its frame stays until then.
abbrev pub worked : Action × Option Action → ℕ → Connection → Connection × Option Taken
worked (action, None) n it = (record (without_frame n it) { left = None; work = left_by action it.work; ends = ends_by action }, Some (taken.Acts action))
worked (part, Some rest) n it = (record it { left = Some rest; work = left_by part it.work }, Some (taken.Acts part))

-- no more watches than may be taken in this turn
abbrev pub acts : Link × Action → ℕ → Connection → Connection × Option Taken
acts acted n it = worked (split it.work acted.1) n (record it { phase = Connected acted.0 })

abbrev pub taken_action : Phase → ℕ → Connection → Connection × Option Taken
taken_action (Connected link) n it = acts (action_of link (frame_in n it.input)) n it
taken_action other n it = (it, None)

-- what is left of an action comes first
abbrev pub taken_frame : Option Action → ℕ → Connection → Connection × Option Taken
taken_frame None n it = taken_action it.phase n it
taken_frame (Some action) n it = worked (split it.work action) n it

abbrev pub taken_next : Result (Option ℕ) FrameFault → Connection → Connection × Option Taken
taken_next (Ok (Some n)) it = taken_frame it.left n it
taken_next (Ok None) it = (it, None)
taken_next (Err fault) it = broken it

abbrev pub taken_request : Connection → Connection × Option Taken
taken_request it = taken_next (next_frame_in it.input) it

-- ---- any input

-- a connection that waits for its session sends nothing
abbrev pub taken_in : Phase → Connection → Connection × Option Taken
taken_in New it = taken_first it
taken_in Connecting it = (it, None)
taken_in (Connected link) it = taken_request it

-- no more is taken in this turn
abbrev pub is_spent : Connection → Bool
is_spent it = nat_eq it.work 0

abbrev pub rests : Connection → Bool
rests it = it.ends || is_spent it

abbrev pub taken_of : Connection → Connection × Option Taken
taken_of it = if rests it then (it, None) else taken_in it.phase it
