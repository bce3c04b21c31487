-- Worlds of servers and messages, and the effect of one event. Own; the servers' rules are Zab's.
use Rattle.std.specs.Prelude.{ℕ, ℤ, ◌+◌, ◌-◌, ◌==◌, ◌&&◌, not, nat_lt, nat_le, Bool, true, false, if◌then◌else◌, List, [], ◌∷◌, ◌++◌, length, set, slice_get, Option, Some, None, Result, Ok, Err}
use Rattle.zab_epoch.specs.declared.rule_fault.RuleFault.{RuleFault}
use Rattle.zab_epoch.specs.declared.history.Entry.{Entry}
use Rattle.zab_epoch.specs.declared.message.Body.{Body}
use Rattle.zab_epoch.specs.declared.message.Body.TheVariants.{CEpoch, NewEpoch, AckEpoch, NewLeader, AckLeader, Propose, Ack, Commit, Request, SyncAsk, SyncTell}
use Rattle.zab_epoch.specs.declared.message.Message.{Message}
use Rattle.zab_broadcast.specs.declared.state.State.{State}
use Rattle.zab_broadcast.specs.Calls.{Setting, setting_of, is_taken}
use Rattle.zab_broadcast.specs.Rules as rules
use Rattle.zab_broadcast.specs.Rules.{Acts, silent, restored, is_serving}
use Rattle.zab_model.specs.declared.event.Event.{Event}
use Rattle.zab_model.specs.declared.event.Event.TheVariants.{Lead, Follow, Arrive, Submit, Expire, Sync, Crash, Restart}
use Rattle.zab_model.specs.declared.event.Moved.{Moved}
use Rattle.zab_model.specs.declared.fault.WorldFault.{WorldFault}
use Rattle.zab_model.specs.declared.fault.WorldFault.TheVariants as faults
use Rattle.zab_model.specs.declared.used_tags.UsedTags.{UsedTags}
use Rattle.zab_model.specs.Refusals.{world_fault_of}
use Rattle.zab_model.specs.ProcessStates.{ProcessState, standing, new_servers}

-- the servers, from number 1 on; all messages ever sent, numbered from 1; the tags of all accepted
-- calls and syncs
pub record World (C : Type 0) : Type 0 where
  pub servers : List ProcessState
  pub messages : List (Message C)
  pub tags : UsedTags

abbrev pub spent : List ℕ → List ℕ → UsedTags
spent calls syncs = record { calls = calls; syncs = syncs }

abbrev pub world : {C : Type 0} → List ProcessState → List (Message C) → UsedTags → World C
world servers messages tags = record { servers = servers; messages = messages; tags = tags }

abbrev pub new_world : {C : Type 0} → ℕ → World C
new_world servers = world (new_servers servers servers) [] (spent [] [])

-- the parameters of the rules, and the call that closes a session
pub record Profile (C : Type 0) : Type 0 where
  pub setting : Setting C
  pub closing : ℕ → ℤ → ℤ → C

abbrev pub profile_of : {C : Type 0} → (List Bool → Bool) → (List Entry → C → ℤ → Entry) → (C → ℕ) → (ℕ → ℤ → ℤ → C) → Profile C
profile_of passes made tag closing = record { setting = setting_of passes made tag; closing = closing }

abbrev pub Answer : Type 0
Answer = Result Moved WorldFault

-- the numbers of `n` new messages, after those sent before
abbrev pub moved : ℕ → ℕ → Moved
moved before count = record { first = if count == 0 then 0 else before + 1; count = count }

-- ---- a server acts

abbrev pub is_server : ℕ → ℕ → Bool
is_server servers number = nat_lt 0 number && nat_le number servers

abbrev pub server_at : List ProcessState → ℕ → Option ProcessState
server_at servers number = if is_server (length servers) number then slice_get servers (number - 1) else None

abbrev pub if_up : Option ProcessState → Result ProcessState WorldFault
if_up None = Err faults.NoServer
if_up (Some it) = if it.up then Ok it else Err faults.Down

-- a running server, or why there is none
abbrev pub running : List ProcessState → ℕ → Result ProcessState WorldFault
running servers number = if_up (server_at servers number)

abbrev pub if_down : Option ProcessState → Result ProcessState WorldFault
if_down None = Err faults.NoServer
if_down (Some it) = if it.up then Err faults.NotDown else Ok it

-- a server that is down, or why there is none
abbrev pub resting : List ProcessState → ℕ → Result ProcessState WorldFault
resting servers number = if_down (server_at servers number)

-- messages are sent, after all that were sent before
abbrev pub told : {C : Type 0} → World C → Result (List (Message C)) WorldFault → World C × Answer
told w (Ok messages) =
    (world w.servers (w.messages ++ messages) w.tags, Ok (moved (length w.messages) (length messages)))
told w (Err fault) = (w, Err fault)

abbrev pub said : {C : Type 0} → Result (List (Message C)) RuleFault → Result (List (Message C)) WorldFault
said (Ok messages) = Ok messages
said (Err fault) = Err (world_fault_of fault)

-- the world with this server state
abbrev pub with_server : {C : Type 0} → World C → ℕ → ProcessState → World C
with_server w number stands = world (set w.servers (number - 1) stands) w.messages w.tags

-- a running server acts by a rule
abbrev pub acts : {C : Type 0} → World C → ℕ → (State → Acts C) → Result ProcessState WorldFault → World C × Answer
acts w number rule (Ok it) =
    told (with_server w number (standing it.up (rule it.state).0)) (said (rule it.state).1)
acts w number rule (Err fault) = (w, Err fault)

-- ---- messages

-- the effect of a message on its addressee
abbrev pub receives : {C : Type 0} → Setting C → ℕ → Body C → State → Acts C
receives setting from (CEpoch promised) state = rules.c_epoch setting.passes state from promised
receives setting from (NewEpoch epoch) state = rules.new_epoch state from epoch
receives setting from (AckEpoch epoch vote current last) state =
    rules.ack_epoch setting.passes state from epoch vote (record { current = current; last = last })
receives setting from (NewLeader epoch keep rest) state = rules.new_leader state from epoch keep rest
receives setting from (AckLeader epoch count) state = rules.ack_leader setting.passes state from epoch count
receives setting from (Propose epoch index entry) state = rules.propose state from epoch index entry
receives setting from (Ack epoch count) state = rules.ack setting.passes state from epoch count
receives setting from (Commit epoch count) state = rules.commit state from epoch count
receives setting from (Request epoch call) state = rules.request setting state epoch call
receives setting from (SyncAsk epoch tag) state = rules.sync_ask state from epoch tag
receives setting from (SyncTell epoch tag count) state = rules.sync_tell state from epoch tag count

abbrev pub message_at : {C : Type 0} → List (Message C) → ℕ → Option (Message C)
message_at messages number = if number == 0 then None else slice_get messages (number - 1)

abbrev pub arrives : {C : Type 0} → Setting C → World C → Option (Message C) → World C × Answer
arrives setting w None = (w, Err faults.NoMessage)
arrives setting w (Some it) =
    acts w it.addressee (receives setting it.sender it.body) (running w.servers it.addressee)

-- ---- calls

-- an accepted call's tag is used up
abbrev pub spends : {C : Type 0} → ℕ → World C × Answer → World C × Answer
spends tag (w, Ok numbers) =
    (world w.servers w.messages (spent (w.tags.calls ++ tag ∷ []) w.tags.syncs), Ok numbers)
spends tag (w, Err fault) = (w, Err fault)

abbrev pub submits : {C : Type 0} → Setting C → World C → ℕ → C → Result ProcessState WorldFault → World C × Answer
submits setting w number call (Ok it) =
    if is_serving it.state.peer.role
    then (if is_taken (setting.tag call) w.tags.calls
    then (w, Err faults.DuplicateCall)
    else spends (setting.tag call) (acts w number (λ state. rules.submit setting state call) (Ok it)))
    else (w, Err faults.NotServing)
submits setting w number call (Err fault) = (w, Err fault)

-- ---- syncs

-- an accepted sync's tag is used up
abbrev pub spends_sync : {C : Type 0} → ℕ → World C × Answer → World C × Answer
spends_sync tag (w, Ok numbers) =
    (world w.servers w.messages (spent w.tags.calls (w.tags.syncs ++ tag ∷ [])), Ok numbers)
spends_sync tag (w, Err fault) = (w, Err fault)

abbrev pub syncs : {C : Type 0} → World C → ℕ → ℕ → Result ProcessState WorldFault → World C × Answer
syncs w number tag (Ok it) =
    if is_serving it.state.peer.role
    then (if is_taken tag w.tags.syncs
    then (w, Err faults.DuplicateCall)
    else spends_sync tag (acts w number (λ state. rules.sync state tag) (Ok it)))
    else (w, Err faults.NotServing)
syncs w number tag (Err fault) = (w, Err fault)

-- ---- crashes

-- a crash leaves the stable part
abbrev pub crashed : State → State
crashed state = restored state.peer.servers state.peer.me state.peer.stable

abbrev pub crashes : {C : Type 0} → World C → ℕ → Result ProcessState WorldFault → World C × Answer
crashes w number (Ok it) = told (with_server w number (standing false (crashed it.state))) (Ok [])
crashes w number (Err fault) = (w, Err fault)

abbrev pub restarts : {C : Type 0} → World C → ℕ → Result ProcessState WorldFault → World C × Answer
restarts w number (Ok it) = told (with_server w number (standing true it.state)) (Ok [])
restarts w number (Err fault) = (w, Err fault)

-- ---- one event: the world after it, and the answer

abbrev pub follows : {C : Type 0} → World C → ℕ → ℕ → World C × Answer
follows w number leader =
    if is_server (length w.servers) leader && not (number == leader)
    then acts w number (λ state. rules.follow state leader) (running w.servers number)
    else (w, Err faults.NoServer)

abbrev pub happens : {C : Type 0} → Profile C → World C → Event C → World C × Answer
happens profile w (Lead number) = acts w number rules.lead (running w.servers number)
happens profile w (Follow number leader) = follows w number leader
happens profile w (Arrive number) = arrives profile.setting w (message_at w.messages number)
happens profile w (Submit number call) = submits profile.setting w number call (running w.servers number)
happens profile w (Expire number tag session now) =
    submits profile.setting w number (profile.closing tag session now) (running w.servers number)
happens profile w (Sync number tag) = syncs w number tag (running w.servers number)
happens profile w (Crash number) = crashes w number (running w.servers number)
happens profile w (Restart number) = restarts w number (resting w.servers number)
