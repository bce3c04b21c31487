-- A connection that has sent nothing more, and sessions that have not ended.
use Rattle.std.proofs.Common.{◌≡◌, ◌∙◌, ℕ, ℤ, Bool, true, false, List, [], ◌∷◌, length, map, Option, Some, None, if◌then◌else◌, refl, sym, ap}
use Rattle.std.proofs.lemmas.List.{nil_from_length}
use Rattle.zab_broadcast.specs.Calls.{Setting}
use Rattle.zk_client_port.specs.Execution.{served}
use Rattle.zk_client_port.specs.Ports.{closed_if, is_among}
use Rattle.zk_client_port.specs.Serving.{NoFrame, ServesAll}
use Rattle.zk_client_port.specs.declared.admission.Admission.{Admission}
use Rattle.zk_client_port.specs.declared.execution.Moment.{Moment}
use Rattle.zk_client_port.specs.declared.expected.Expected.{Expected}
use Rattle.zk_connections.specs.Connections.{closing, session_of}
use Rattle.zk_connections.specs.Inputs.{rests, taken_in, taken_next, taken_of, taken_opening, taken_word}
use Rattle.zk_connections.specs.Words.{word_in}
use Rattle.zk_connections.specs.declared.connection.Connection.{Connection}
use Rattle.zk_connections.specs.declared.connection.Phase.{Phase}
use Rattle.zk_connections.specs.declared.connection.Phase.TheVariants.{New, Connecting, Connected}
use Rattle.zk_connections.specs.declared.input.Taken.{Taken}
use Rattle.zk_frames.specs.Frames.{next_frame_in}
use Rattle.zk_host.specs.declared.replica_host.ReplicaHost.{ReplicaHost}
use Rattle.zk_hub.specs.declared.outcome.Outcome.{Outcome}
use Rattle.zk_hub.specs.declared.request.Outstanding.{Outstanding}
use Rattle.zk_requests.specs.declared.call.Call.{Call}

-- ---- no bytes

none_in : (phase : Phase) (it : Connection) → it.input ≡ [] → taken_in phase it ≡ (it, None)
none_in New it none =
    ap (λ (input : List ℕ). taken_word (word_in input) it) none ∙ ap (λ (input : List ℕ). taken_opening (next_frame_in input) it) none
none_in Connecting it none = refl
none_in (Connected link) it none = ap (λ (input : List ℕ). taken_next (next_frame_in input) it) none

either : (ends : Bool) (it : Connection) (taken : Connection × Option Taken) → taken ≡ (it, None) → (if ends then (it, None) else taken) ≡ (it, None)
either true it taken is = refl
either false it taken is = is

pub no_frame : (it : Connection) → it.input ≡ [] → taken_of it ≡ (it, None)
no_frame it none = either (rests it) it (taken_in it.phase it) (none_in it.phase it none)

pub idle : {S : Type 0} (setting : Setting Call) (moment : Moment) (host : ReplicaHost S) (hub : List (Outstanding Expected Outcome)) (it : Connection) (admission : Admission)
    → length it.input ≡ 0 → ServesAll setting moment (served host hub it) admission (served host hub it) admission
idle setting moment host hub it admission none = record {
  frames = [];
  serves = (refl, refl);
  idle = NoFrame (no_frame it (nil_from_length it.input none));
}

-- ---- no sessions

among_none : (session : Option ℤ) → is_among [] session ≡ false
among_none None = refl
among_none (Some session) = refl

pub none_closed : (its : List Connection) → map (closed_if []) its ≡ its
none_closed [] = refl
none_closed (it ∷ its) =
    ap (λ (closes : Bool). (if closes then closing it else it) ∷ map (closed_if []) its) (among_none (session_of it)) ∙ ap (λ (rest : List Connection). it ∷ rest) (none_closed its)

pub closed_none : (ended : List ℤ) (its : List Connection) → length ended ≡ 0 → its ≡ map (closed_if ended) its
closed_none ended its none = sym (none_closed its) ∙ ap (λ (sessions : List ℤ). map (closed_if sessions) its) (sym (nil_from_length ended none))
