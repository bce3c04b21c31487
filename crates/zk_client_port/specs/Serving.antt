-- A server takes what a connection has sent: frame by frame, in order, each once. ZooKeeper
-- Programmer's Guide, "Consistency Guarantees": a client's requests are executed in the order in
-- which it sent them.
use Rattle.std.specs.Prelude.{◌≡◌, ℕ, ◌<◌, ℤ, ◌&&◌, nat_lt, Bool, true, false, not, List, [], ◌∷◌, length, Option, Some, None, Ok, Err}
use Rattle.zab_broadcast.specs.Calls.{Setting}
use Rattle.zk_client_port.specs.Demands.{demand_of}
use Rattle.zk_client_port.specs.Execution.{Served, served, ExecutesTo}
use Rattle.zk_client_port.specs.Flushing.{HasFlushed, LosesReplies}
use Rattle.zk_client_port.specs.declared.admission.Admission.{Admission}
use Rattle.zk_client_port.specs.declared.execution.Moment.{Moment}
use Rattle.zk_client_port.specs.declared.expected.Expected.{Expected}
use Rattle.zk_client_port.specs.declared.fault.ServeFault.{ServeFault}
use Rattle.zk_client_port.specs.declared.fault.ServeFault.TheVariants as faults
use Rattle.zk_connections.specs.Connections.{is_slow, session_of}
use Rattle.zk_connections.specs.Inputs.{taken_of}
use Rattle.zk_connections.specs.declared.connection.Connection.{Connection}
use Rattle.zk_connections.specs.declared.input.Taken.{Taken}
use Rattle.zk_hub.specs.declared.outcome.Outcome.{Outcome}
use Rattle.zk_host.specs.declared.replica_host.ReplicaHost.{ReplicaHost}
use Rattle.zk_hub.specs.Hubs.{is_blocked}
use Rattle.zk_hub.specs.declared.request.Outstanding.{Outstanding}
use Rattle.zk_requests.specs.declared.call.Call.{Call}
use Rattle.zk_connections.specs.Sessions.{has_id, touched, with_first}
use Rattle.zk_connections.specs.declared.session.Session.{Session}

-- ---- when a frame is taken

-- none while a read waits, while more than 1 MB waits to be sent, or while the server has 1000
-- outstanding requests, as `zookeeper.globalOutstandingLimit`
abbrev pub may_take_of : List (Outstanding Expected Outcome) → Connection → Bool
may_take_of hub connection =
    not (is_blocked connection.number hub) && (not (is_slow connection) && nat_lt (length hub) 1000)

abbrev pub may_take : {S : Type 0} → Served S → Bool
may_take it = may_take_of it.hub it.connection

-- ---- a frame

-- the session's client was heard of
abbrev pub heard_of : Option ℤ → ℤ → List Session → List Session
heard_of None now sessions = sessions
heard_of (Some session) now sessions = with_first (has_id session) (touched now) sessions

abbrev pub hearing : ℤ → Connection → Admission → Admission
hearing now connection it = record it { sessions = heard_of (session_of connection) now it.sessions }

-- then all is written that can be
abbrev pub FlushesIf : {S : Type 0} → Bool → Admission → ℕ → Served S → Served S → Type 0
FlushesIf true admission server old new = HasFlushed admission server old new
FlushesIf false admission server old new = new ≡ old

-- what a connection's input asks is executed, once
pub record ServesTaken {S : Type 0} (setting : Setting Call) (moment : Moment) (taken : Taken) (old : Served S) (admission : Admission) (new : Served S) (heard : Admission) : Type 0 where
  pub hears : heard ≡ hearing moment.now old.connection admission
  pub ready : Bool
  pub between : Served S
  pub executes : ExecutesTo setting moment (demand_of heard old.host.tree.tree.last moment.now taken) old between (Ok ready)
  pub flushes : FlushesIf ready heard moment.server between new

-- a frame is taken, and executed
pub record ServesFrame {S : Type 0} (setting : Setting Call) (moment : Moment) (taken : Taken) (old : Served S) (admission : Admission) (new : Served S) (heard : Admission) : Type 0 where
  pub may : may_take old ≡ true
  pub connection : Connection
  pub takes : taken_of old.connection ≡ (connection, Some taken)
  pub serves : ServesTaken setting moment taken (served old.host old.hub connection) admission new heard

-- ---- frames, in order

abbrev pub ServesFrames : {S : Type 0} → Setting Call → Moment → List Taken → Served S → Admission → Served S → Admission → Type 0
ServesFrames {S} setting moment [] old admission new heard = (new ≡ old) × (heard ≡ admission)
ServesFrames {S} setting moment (taken ∷ frames) old admission new heard =
    (between : Served S) × (middle : Admission) × ServesFrame setting moment taken old admission between middle
    × ServesFrames setting moment frames between middle new heard

-- why no more is taken: it may not be, there is no whole frame, or more were taken than there were
-- bytes
pub data IsIdle {S : Type 0} (bytes : ℕ) (frames : List Taken) (it : Served S) : Type 0 where
  MayNot : (may : may_take it ≡ false) → IsIdle bytes frames it
  NoFrame : (none : taken_of it.connection ≡ (it.connection, None)) → IsIdle bytes frames it
  AllTaken : (all : bytes < length frames) → IsIdle bytes frames it

pub record ServesAll {S : Type 0} (setting : Setting Call) (moment : Moment) (old : Served S) (admission : Admission) (new : Served S) (heard : Admission) : Type 0 where
  pub frames : List Taken
  pub serves : ServesFrames setting moment frames old admission new heard
  pub idle : IsIdle (length old.connection.input) frames new

-- ---- a connection's turn

-- what waits is written first
pub record Serves {S : Type 0} (setting : Setting Call) (moment : Moment) (old : Served S) (admission : Admission) (new : Served S) (heard : Admission) : Type 0 where
  pub first : Served S
  pub flushes : FlushesIf (is_blocked old.connection.number old.hub) admission moment.server old first
  pub serves : ServesAll setting moment first admission new heard

-- ---- memory runs out: the frames before are executed, each once, and nothing after

-- a frame is not executed, or it is and its replies are lost
pub data BreaksTaken {S : Type 0} (setting : Setting Call) (moment : Moment) (taken : Taken) (old : Served S) (admission : Admission) (new : Served S) (heard : Admission) (fault : ServeFault) : Type 0 where
  Unexecuted : (hears : heard ≡ hearing moment.now old.connection admission)
      (executes : ExecutesTo setting moment (demand_of heard old.host.tree.tree.last moment.now taken) old new (Err fault)) → BreaksTaken setting moment taken old admission new heard fault
  Unwritten : (hears : heard ≡ hearing moment.now old.connection admission) (ready : Bool) (between : Served S)
      (executes : ExecutesTo setting moment (demand_of heard old.host.tree.tree.last moment.now taken) old between (Ok ready))
      (loses : LosesReplies between new) (is : fault ≡ faults.Connection) → BreaksTaken setting moment taken old admission new heard fault

-- no frame is taken, or one that is not executed whole
pub data BreaksNext {S : Type 0} (setting : Setting Call) (moment : Moment) (old : Served S) (admission : Admission) (new : Served S) (heard : Admission) (fault : ServeFault) : Type 0 where
  Untaken : (host : new.host ≡ old.host) (hub : new.hub ≡ old.hub) (same : heard ≡ admission) (is : fault ≡ faults.Connection) → BreaksNext setting moment old admission new heard fault
  Unserved : (taken : Taken) (may : may_take old ≡ true) (connection : Connection) (takes : taken_of old.connection ≡ (connection, Some taken))
      (breaks : BreaksTaken setting moment taken (served old.host old.hub connection) admission new heard fault) → BreaksNext setting moment old admission new heard fault

pub record BreaksFrames {S : Type 0} (setting : Setting Call) (moment : Moment) (old : Served S) (admission : Admission) (new : Served S) (heard : Admission) (fault : ServeFault) : Type 0 where
  pub frames : List Taken
  pub between : Served S
  pub middle : Admission
  pub serves : ServesFrames setting moment frames old admission between middle
  pub breaks : BreaksNext setting moment between middle new heard fault

pub data Breaks {S : Type 0} (setting : Setting Call) (moment : Moment) (old : Served S) (admission : Admission) (new : Served S) (heard : Admission) (fault : ServeFault) : Type 0 where
  Unflushed : (loses : LosesReplies old new) (same : heard ≡ admission) (is : fault ≡ faults.Connection) → Breaks setting moment old admission new heard fault
  Broken : (first : Served S) (flushes : FlushesIf (is_blocked old.connection.number old.hub) admission moment.server old first)
      (breaks : BreaksFrames setting moment first admission new heard fault) → Breaks setting moment old admission new heard fault

-- with any result: what the server has delivered stays
pub record KeepsTree {S : Type 0} (old new : ReplicaHost S) : Type 0 where
  pub tree : new.tree.tree ≡ old.tree.tree
  pub news : new.tree.news ≡ []
  pub shown : new.shown ≡ old.shown
