-- What a connection's demand does at its server's host, and which reply it waits for. ZooKeeper
-- Programmer's Guide, "Consistency Guarantees"; Administrator's Guide, "The Four Letter Words".
use Rattle.std.specs.Prelude.{◌≡◌, ◌≢◌, ℕ, ◌+◌, ℤ, List, [], ◌∷◌, ◌++◌, length, Bool, true, false, Option, Some, None, Result, Ok, Err}
use Rattle.std.specs.FinMap.{keys}
use Rattle.std.specs.Int.{w64, cast_unsigned}
use Rattle.zab_broadcast.specs.Calls.{Setting}
use Rattle.zab_host.specs.Hosts.{Input, Submits, Syncs, StepsTo}
use Rattle.zab_host.specs.Tags.{tag_of}
use Rattle.zab_host.specs.declared.fault.HostFault.{HostFault}
use Rattle.zab_host.specs.declared.fault.HostFault.TheVariants as host_faults
use Rattle.zab_host.specs.declared.tags.TagIssuer.{TagIssuer}
use Rattle.zk_acl.specs.declared.acl.Id.{Id}
use Rattle.zk_client_port.specs.declared.demand.Demand.{Demand}
use Rattle.zk_client_port.specs.declared.demand.Demand.TheVariants as demands
use Rattle.zk_client_port.specs.declared.expected.Expected.{Expected}
use Rattle.zk_client_port.specs.declared.expected.Expected.TheVariants.{Closed}
use Rattle.zk_client_port.specs.declared.execution.Moment.{Moment}
use Rattle.zk_client_port.specs.declared.fault.ServeFault.{ServeFault}
use Rattle.zk_client_port.specs.declared.fault.ServeFault.TheVariants as faults
use Rattle.zk_connections.specs.Connections.{closing, lost, with_no_session, with_output}
use Rattle.zk_connections.specs.Statuses.{text_of}
use Rattle.zk_connections.specs.declared.connection.Connection.{Connection}
use Rattle.zk_connections.specs.declared.status.Status.{Status}
use Rattle.zk_connections.specs.declared.word.Word.{Word}
use Rattle.zk_hub.specs.declared.outcome.Outcome.{Outcome}
use Rattle.zk_hub.specs.declared.outcome.Outcome.TheVariants.{Known}
use Rattle.zk_host.specs.declared.replica_host.ReplicaHost.{ReplicaHost}
use Rattle.zk_hub.specs.declared.request.Outstanding.{Outstanding}
use Rattle.zk_hub.specs.declared.request.Stage.{Stage}
use Rattle.zk_hub.specs.declared.request.Stage.TheVariants.{Waits, Reads, Done}
use Rattle.zk_requests.specs.declared.call.Call.{Call}
use Rattle.zk_requests.specs.declared.call.Request.{Request}
use Rattle.zk_table.specs.States.{State}

-- a host, the outstanding requests of its connections, and one connection
pub record Served (S : Type 0) : Type 0 where
  pub host : ReplicaHost S
  pub hub : List (Outstanding Expected Outcome)
  pub connection : Connection

abbrev pub served : {S : Type 0} → ReplicaHost S → List (Outstanding Expected Outcome) → Connection → Served S
served host hub connection = record { host = host; hub = hub; connection = connection }

-- ---- a request to the ensemble

abbrev pub next_tag : TagIssuer → ℕ
next_tag tags = tag_of tags.host tags.boot tags.used

-- the host has used a tag, and made Zab's step for an input; clients do not see it yet
pub record Steps {S : Type 0} (setting : Setting Call) (input : Input Call) (old new : ReplicaHost S) (result : Result (Unit {0}) HostFault) : Type 0 where
  pub steps : StepsTo setting old.host input new.host result
  pub counted : new.tags ≡ record old.tags { used = old.tags.used + 1 }
  pub tree : new.tree ≡ old.tree
  pub shown : new.shown ≡ old.shown

-- the host has no more tags, or rejects the input with its next one
pub data IsRejected {S : Type 0} (setting : Setting Call) (input : ℕ → Input Call) (old new : ReplicaHost S) : Type 0 where
  NoTag : (used : old.tags.used ≡ 4294967295) (same : new ≡ old) → IsRejected setting input old new
  ByHost : (fault : HostFault) (why : fault ≢ host_faults.NoMemory) (steps : Steps setting (input (next_tag old.tags)) old new (Err fault)) → IsRejected setting input old new

-- the tag of the request's outcome; None if it is rejected
abbrev pub Requests : {S : Type 0} → Setting Call → (ℕ → Input Call) → ReplicaHost S → ReplicaHost S → Option ℕ → Type 0
Requests setting input old new (Some tag) = (tag ≡ next_tag old.tags) × Steps setting (input tag) old new (Ok tt)
Requests setting input old new None = IsRejected setting input old new

-- an allocation of the host has failed: but for its tags it is unchanged, or the input's messages are lost
abbrev pub FailsToAsk : {S : Type 0} → Setting Call → (ℕ → Input Call) → ReplicaHost S → ReplicaHost S → Type 0
FailsToAsk setting input old new = Steps setting (input (next_tag old.tags)) old new (Err host_faults.NoMemory)

abbrev pub RequestsTo : {S : Type 0} → Setting Call → (ℕ → Input Call) → ReplicaHost S → ReplicaHost S → Result (Option ℕ) ServeFault → Type 0
RequestsTo setting input old new (Ok tag) = Requests setting input old new tag
RequestsTo setting input old new (Err faults.Host) = FailsToAsk setting input old new
RequestsTo setting input old new (Err faults.Connection) = ⊥

-- the tag of an input, if the host has taken it
abbrev pub tag_after : ℕ → Result (Unit {0}) HostFault → Result (Option ℕ) ServeFault
tag_after tag (Ok _) = Ok (Some tag)
tag_after tag (Err host_faults.NoMemory) = Err faults.Host
tag_after tag (Err fault) = Ok None

abbrev pub call_of : ℤ → ℤ → List Id → ℤ → Request → ℕ → Input Call
call_of session cxid auths now request tag = Submits (record {
  tag = tag;
  session = session;
  cxid = cxid;
  auths = auths;
  now = now;
  request = request;
})

-- ---- a connection's next outstanding request

abbrev pub request : ℕ → Stage Outcome → Expected → Outstanding Expected Outcome
request number stage expected = record { connection = number; stage = stage; expected = expected }

abbrev pub known : ℕ → Expected → Outstanding Expected Outcome
known number expected = request number (Done Known) expected

-- one that is rejected closes the connection in its turn
abbrev pub outstanding : ℕ → Option ℕ → Expected → Outstanding Expected Outcome
outstanding number (Some tag) expected = request number (Waits tag) expected
outstanding number None expected = known number Closed

-- its reply or its read may be ready at once
abbrev pub is_ready : Stage Outcome → Bool
is_ready (Waits tag) = false
is_ready other = true

-- it comes after all others; without memory it is lost with its connection
abbrev pub Pushes : Outstanding Expected Outcome → List (Outstanding Expected Outcome) → List (Outstanding Expected Outcome) → Result Bool ServeFault → Type 0
Pushes request old new (Ok ready) = (new ≡ old ++ request ∷ []) × (ready ≡ is_ready request.stage)
Pushes request old new (Err faults.Connection) = new ≡ old
Pushes request old new (Err faults.Host) = ⊥

-- a request to the ensemble
pub record Executes {S : Type 0} (setting : Setting Call) (input : ℕ → Input Call) (expected : Expected) (old new : Served S) (result : Result Bool ServeFault) : Type 0 where
  pub tag : Option ℕ
  pub requests : Requests setting input old.host new.host tag
  pub pushes : Pushes (outstanding old.connection.number tag expected) old.hub new.hub result
  pub connection : new.connection ≡ old.connection

-- an allocation of the host fails
pub record FailsToExecute {S : Type 0} (setting : Setting Call) (input : ℕ → Input Call) (old new : Served S) : Type 0 where
  pub fails : FailsToAsk setting input old.host new.host
  pub hub : new.hub ≡ old.hub
  pub connection : new.connection ≡ old.connection

abbrev pub AsksTo : {S : Type 0} → Setting Call → (ℕ → Input Call) → Expected → Served S → Served S → Result Bool ServeFault → Type 0
AsksTo setting input expected old new (Ok ready) = Executes setting input expected old new (Ok ready)
AsksTo setting input expected old new (Err faults.Connection) = Executes setting input expected old new (Err faults.Connection)
AsksTo setting input expected old new (Err faults.Host) = FailsToExecute setting input old new

-- a request that its server executes
pub record Queues {S : Type 0} (request : Outstanding Expected Outcome) (old new : Served S) (result : Result Bool ServeFault) : Type 0 where
  pub host : new.host ≡ old.host
  pub pushes : Pushes request old.hub new.hub result
  pub connection : new.connection ≡ old.connection

-- ---- a reply to a connection that has no session

abbrev pub status_of : State → ℕ → Moment → Status
status_of tree requests moment = record {
  mode = moment.mode;
  last = cast_unsigned w64 tree.last;
  nodes = length (keys tree.nodes);
  connections = moment.connections;
  outstanding = requests;
}

-- a list is written after the turn of all connections
abbrev pub printed_by : Option (List ℕ) → Word → Connection → Connection
printed_by (Some text) word it = closing (with_output text it)
printed_by None word it = record it { listing = Some word }

abbrev pub printed : {S : Type 0} → Moment → Word → Served S → Connection
printed moment word it = printed_by (text_of word (status_of it.host.tree.tree (length it.hub) moment)) word it.connection

abbrev pub Writes : Connection → Connection → Result Bool ServeFault → Type 0
Writes written new (Ok ready) = (new ≡ written) × (ready ≡ false)
Writes written new (Err faults.Connection) = Unit {0}
Writes written new (Err faults.Host) = ⊥

pub record Tells {S : Type 0} (written : Connection) (old new : Served S) (result : Result Bool ServeFault) : Type 0 where
  pub host : new.host ≡ old.host
  pub hub : new.hub ≡ old.hub
  pub writes : Writes written new.connection result

-- ---- any demand

abbrev pub ExecutesTo : {S : Type 0} → Setting Call → Moment → Demand → Served S → Served S → Result Bool ServeFault → Type 0
ExecutesTo setting moment (demands.Submit session cxid auths request expected) old new result =
    AsksTo setting (call_of session cxid auths moment.now request) expected old new result
ExecutesTo setting moment (demands.Sync expected) old new result = AsksTo setting Syncs expected old new result
ExecutesTo setting moment (demands.Read expected) old new result = Queues (request old.connection.number Reads expected) old new result
ExecutesTo setting moment (demands.Reply expected) old new result = Queues (known old.connection.number expected) old new result
ExecutesTo setting moment (demands.Print word) old new result = Tells (printed moment word old) old new result
ExecutesTo setting moment (demands.Reject read_only) old new result = Tells (with_no_session read_only old.connection) old new result
ExecutesTo setting moment demands.CutOff old new result = Tells (lost old.connection) old new result
