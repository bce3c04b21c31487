-- A host: one server of Zab, the messages that it has not sent yet, and its store. The effect of
-- one input on it.
-- Junqueira, Reed, Serafini: "Zab: High-performance broadcast for primary-backup systems", DSN 2011.
use Rattle.std.specs.Prelude.{◌≡◌, ◌≢◌, ◌⊎◌, ◌<◌, ◌≤◌, ℕ, List, [], ◌++◌, Result, Ok, Err}
use Rattle.zab_epoch.specs.declared.rule_fault.RuleFault.{RuleFault}
use Rattle.zab_epoch.specs.declared.rule_fault.RuleFault.TheVariants as rule
use Rattle.zab_epoch.specs.declared.message.Body.{Body}
use Rattle.zab_epoch.specs.declared.message.Body.TheVariants.{CEpoch, NewEpoch, AckEpoch, NewLeader}
use Rattle.zab_epoch.specs.declared.message.Message.{Message}
use Rattle.zab_epoch.specs.declared.stable.Stable.{Stable}
use Rattle.zab_broadcast.specs.declared.state.State.{State}
use Rattle.zab_broadcast.specs.Calls.{Setting}
use Rattle.zab_broadcast.specs.Guards.{EndsBelow}
use Rattle.zab_broadcast.specs.Rules as rules
use Rattle.zab_broadcast.specs.Rules.{Acts}
use Rattle.zab_model.specs.Worlds.{receives}
use Rattle.zab_host.specs.Durability.{IsDurable}
use Rattle.zab_host.specs.declared.fault.HostFault.{HostFault}
use Rattle.zab_host.specs.declared.fault.HostFault.TheVariants as faults
use Rattle.zab_host.specs.declared.fault.ReceiveFault.{ReceiveFault}
use Rattle.zab_host.specs.declared.fault.ReceiveFault.TheVariants as receive_faults

-- the server's state in memory, the messages that wait for the store, and the store
pub record HostView (C S : Type 0) : Type 0 where
  pub state : State
  pub outbox : List (Message C)
  pub storage : S

abbrev pub host : {C S : Type 0} → State → List (Message C) → S → HostView C S
host state outbox storage = record { state = state; outbox = outbox; storage = storage }

-- ---- inputs

-- a host's inputs between two stores
pub data Input (C : Type 0) : Type 0 where
  -- a message from another host
  Receives : (message : Message C) → Input C
  -- a client's call, a client's sync
  Submits : (call : C) → Input C
  Syncs : (tag : ℕ) → Input C
  -- the election's result
  Leads : Input C
  Follows : (leader : ℕ) → Input C

-- the server's new state and messages, by Zab's rule for the input
abbrev pub acts_of : {C : Type 0} → Setting C → State → Input C → Acts C
acts_of setting state (Receives message) = receives setting message.sender message.body state
acts_of setting state (Submits call) = rules.submit setting state call
acts_of setting state (Syncs tag) = rules.sync state tag
acts_of setting state Leads = rules.lead state
acts_of setting state (Follows leader) = rules.follow state leader

abbrev pub messages_of : {C : Type 0} → Result (List (Message C)) RuleFault → List (Message C)
messages_of (Ok messages) = messages
messages_of (Err fault) = []

-- ---- one step

-- the rule's messages join the outbox
abbrev pub with_acts : {C S : Type 0} → HostView C S → Acts C → HostView C S
with_acts it acts = host acts.0 (it.outbox ++ messages_of acts.1) it.storage

abbrev pub host_after : {C S : Type 0} → Setting C → HostView C S → Input C → HostView C S
host_after setting it input = with_acts it (acts_of setting it.state input)

-- the rule's messages are lost, as any message may be
abbrev pub host_without_messages : {C S : Type 0} → Setting C → HostView C S → Input C → HostView C S
host_without_messages setting it input = host (acts_of setting it.state input).0 it.outbox it.storage

abbrev pub host_fault_of : RuleFault → HostFault
host_fault_of rule.NotServing = faults.NotServing
host_fault_of rule.EpochFull = faults.EpochFull
host_fault_of rule.NoMemory = faults.NoMemory

abbrev pub result_of : {C : Type 0} → Result (List (Message C)) RuleFault → Result Unit HostFault
result_of (Ok messages) = Ok tt
result_of (Err fault) = Err (host_fault_of fault)

-- the number of another server of the ensemble
abbrev pub MayFollow : State → ℕ → Type 0
MayFollow state leader = (0 < leader) × ((leader ≤ state.peer.servers) × (leader ≢ state.peer.me))

-- the message is addressed to this server; the leader is another server
abbrev pub IsFor : {C : Type 0} → State → Input C → Type 0
IsFor state (Receives message) = message.addressee ≡ state.peer.me
IsFor state (Follows leader) = MayFollow state leader
IsFor state input = Unit {0}

pub record HasActed {C S : Type 0} (setting : Setting C) (old : HostView C S) (input : Input C) (new : HostView C S) (result : Result Unit HostFault) : Type 0 where
  pub fits : IsFor old.state input
  pub now : new ≡ host_after setting old input
  pub returned : result_of (acts_of setting old.state input).1 ≡ result

-- why an input has no rule here: it is not for this server, or a leader's history ends too high
abbrev pub IsOutside : {C : Type 0} → State → Input C → HostFault → Type 0
IsOutside state input faults.NoServer = IsFor state input → ⊥
IsOutside state input faults.OutOfOrder = EndsBelow state → ⊥
IsOutside state input fault = ⊥

-- The host after an input, for each result. An input that has no rule here changes nothing. If an
-- allocation fails, either nothing changes or the input's messages are lost.
abbrev pub StepsTo : {C S : Type 0} → Setting C → HostView C S → Input C → HostView C S → Result Unit HostFault → Type 0
StepsTo setting old input new (Ok _) = HasActed setting old input new (Ok tt)
StepsTo setting old input new (Err faults.NoServer) = (new ≡ old) × IsOutside old.state input faults.NoServer
StepsTo setting old input new (Err faults.OutOfOrder) = (new ≡ old) × IsOutside old.state input faults.OutOfOrder
StepsTo setting old input new (Err faults.NotServing) = HasActed setting old input new (Err faults.NotServing)
StepsTo setting old input new (Err faults.EpochFull) = HasActed setting old input new (Err faults.EpochFull)
StepsTo setting old input new (Err faults.NoMemory) =
    (new ≡ old) ⊎ (IsFor old.state input × (new ≡ host_without_messages setting old input))

-- ---- the store

-- the server's stable part is durable
abbrev pub IsStored : {C S : Type 0} → (S → Stable → Type 0) → HostView C S → Type 0
IsStored may_recover it = IsDurable it.state.peer.stable (may_recover it.storage)

-- a message that appends at most one entry to the stable part; the four others, of discovery and
-- synchronization, may replace it
abbrev pub IsAppendOnlyBody : {C : Type 0} → Body C → Type 0
IsAppendOnlyBody (CEpoch promised) = ⊥
IsAppendOnlyBody (NewEpoch epoch) = ⊥
IsAppendOnlyBody (AckEpoch epoch vote current last) = ⊥
IsAppendOnlyBody (NewLeader epoch keep rest) = ⊥
IsAppendOnlyBody body = Unit {0}

-- A rejected input of a host that stores its inputs atomically: all that it has is stored, also if
-- only the input's messages are lost. If the store fails, the host has changed as its rule says.
abbrev pub IsRejected : {C S : Type 0} → (S → Stable → Type 0) → Setting C → HostView C S → Input C → HostView C S → ReceiveFault → Type 0
IsRejected may_recover setting old input new (receive_faults.Host fault) =
    StepsTo setting (host old.state old.outbox new.storage) input new (Err fault) × IsStored may_recover new
IsRejected may_recover setting old input new (receive_faults.Store fault) =
    (received : Result Unit HostFault) × StepsTo setting (host old.state old.outbox new.storage) input new received
