-- What holds of a connection over every list of frames that are taken of it. ZooKeeper Programmer's
-- Guide, "Consistency Guarantees", sequential consistency: "updates from a client will be applied in
-- the order that they were sent".
use Rattle.std.specs.Prelude.{◌≡◌, ℕ, ◌≤◌, List, length, drop}
use Rattle.std.specs.List.{AllByRecursion}
use Rattle.zab_broadcast.specs.Calls.{Setting}
use Rattle.zk_client_port.specs.Execution.{Served}
use Rattle.zk_client_port.specs.Serving.{ServesFrames}
use Rattle.zk_client_port.specs.declared.execution.Moment.{Moment}
use Rattle.zk_client_port.specs.declared.admission.Admission.{Admission}
use Rattle.zk_client_port.specs.declared.expected.Expected.{Expected}
use Rattle.zk_connections.specs.declared.connection.Connection.{Connection}
use Rattle.zk_connections.specs.declared.input.Taken.{Taken}
use Rattle.zk_hub.specs.declared.outcome.Outcome.{Outcome}
use Rattle.zk_hub.specs.Laws.{Input, Pushes, TakesReplies, TakesRead, after_inputs, sent}
use Rattle.zk_hub.specs.declared.request.Outstanding.{Outstanding}
use Rattle.zk_requests.specs.declared.call.Call.{Call}
use Rattle.zk_watch.specs.declared.watch.Fired.{Fired}

-- the connection's input is taken from its start
pub record Advances (old new : Connection) : Type 0 where
  pub number : new.number ≡ old.number
  pub bytes : ℕ
  pub input : new.input ≡ drop bytes old.input

-- an input of the hub by this connection: its request is pushed, its replies or its read are taken
abbrev pub IsBy : ℕ → Input Fired Expected Outcome → Type 0
IsBy number (Pushes request) = request.connection ≡ number
IsBy number (TakesReplies connection) = connection ≡ number
IsBy number (TakesRead connection) = connection ≡ number
IsBy number other = ⊥

-- the outstanding requests change by its inputs alone; it pushes one request a frame at most
pub record ChangesBy (number frames : ℕ) (old new : List (Outstanding Expected Outcome)) : Type 0 where
  pub inputs : List (Input Fired Expected Outcome)
  pub own : AllByRecursion (IsBy number) inputs
  pub hub : new ≡ after_inputs inputs old
  pub sends : length (sent number inputs) ≤ frames

-- whichever frames are taken: the laws of the hub hold of what they change
abbrev pub EachFrameOnce : Type 0 → Type 0
EachFrameOnce S = (setting : Setting Call) (moment : Moment) (frames : List Taken) (old new : Served S) (admission heard : Admission) →
    ServesFrames setting moment frames old admission new heard →
    Advances old.connection new.connection × ChangesBy old.connection.number (length frames) old.hub new.hub
