-- What is taken of a connection is the start of its input.
use Rattle.std.proofs.Common.{ℕ, ◌+◌, Bool, true, false, Option, Some, None, Result, Ok, Err, if◌then◌else◌, refl}
use Rattle.zk_client_port.specs.FrameLaws.{Advances}
use Rattle.zk_connections.specs.Inputs.{connects, rests, taken_action, taken_frame, taken_in, taken_next, taken_of, taken_opening, taken_word, worked}
use Rattle.zk_connections.specs.declared.connection.Connection.{Connection}
use Rattle.zk_connections.specs.declared.connection.Phase.{Phase}
use Rattle.zk_connections.specs.declared.connection.Phase.TheVariants.{New, Connecting, Connected}
use Rattle.zk_connections.specs.declared.input.Taken.{Taken}
use Rattle.zk_connections.specs.declared.word.Word.{Word}
use Rattle.zk_client_session.specs.declared.ask.Action.{Action}
use Rattle.zk_client_session.specs.declared.link.Link.{Link}
use Rattle.zk_frames.specs.declared.fault.FrameFault.{FrameFault}
use Rattle.zk_frames.specs.declared.records.ConnectRequest.{ConnectRequest}
use Rattle.zk_jute.specs.declared.fault.JuteFault.{JuteFault}

pub stays : (it : Connection) → Advances it it
stays it = record { number = refl; bytes = 0; input = refl }

connects_on : (request : Result ConnectRequest JuteFault) (n : ℕ) (it : Connection) → Advances it (connects request n it).0
connects_on (Ok request) n it = record { number = refl; bytes = 4 + n; input = refl }
connects_on (Err fault) n it = record { number = refl; bytes = 0; input = refl }

opens_on : (frame : Result (Option ℕ) FrameFault) (it : Connection) → Advances it (taken_opening frame it).0
opens_on (Ok (Some n)) it = connects_on _ n it
opens_on (Ok None) it = stays it
opens_on (Err fault) it = record { number = refl; bytes = 0; input = refl }

word_on : (word : Option Word) (it : Connection) → Advances it (taken_word word it).0
word_on (Some word) it = record { number = refl; bytes = 0; input = refl }
word_on None it = opens_on _ it

works_on : (parts : Action × Option Action) (n : ℕ) (it : Connection) → Advances it (worked parts n it).0
works_on (action, None) n it = record { number = refl; bytes = 4 + n; input = refl }
works_on (part, Some rest) n it = record { number = refl; bytes = 0; input = refl }

acts_on : (parts : Action × Option Action) (link : Link) (n : ℕ) (it : Connection) → Advances it (worked parts n (record it { phase = Connected link })).0
acts_on (action, None) link n it = record { number = refl; bytes = 4 + n; input = refl }
acts_on (part, Some rest) link n it = record { number = refl; bytes = 0; input = refl }

action_on : (phase : Phase) (n : ℕ) (it : Connection) → Advances it (taken_action phase n it).0
action_on New n it = stays it
action_on Connecting n it = stays it
action_on (Connected link) n it = acts_on _ _ n it

frame_on : (left : Option Action) (n : ℕ) (it : Connection) → Advances it (taken_frame left n it).0
frame_on None n it = action_on it.phase n it
frame_on (Some action) n it = works_on _ n it

next_on : (frame : Result (Option ℕ) FrameFault) (it : Connection) → Advances it (taken_next frame it).0
next_on (Ok (Some n)) it = frame_on it.left n it
next_on (Ok None) it = stays it
next_on (Err fault) it = record { number = refl; bytes = 0; input = refl }

phase_on : (phase : Phase) (it : Connection) → Advances it (taken_in phase it).0
phase_on New it = word_on _ it
phase_on Connecting it = stays it
phase_on (Connected link) it = next_on _ it

either_on : (ends : Bool) (it : Connection) (taken : Connection × Option Taken) → Advances it taken.0 → Advances it (if ends then (it, None) else taken).0
either_on true it taken on = stays it
either_on false it taken on = on

pub takes_on : (it : Connection) → Advances it (taken_of it).0
takes_on it = either_on (rests it) it (taken_in it.phase it) (phase_on it.phase it)
