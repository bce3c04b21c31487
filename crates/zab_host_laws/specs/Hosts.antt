-- Hosts on a network: each has one server, and receives messages that some host has sent. No host
-- knows another's server, or which tags were used.
use Rattle.std.specs.Prelude.{◌≡◌, ℕ, false, if◌then◌else◌, List, [], ◌∷◌, ◌++◌, Some, Result, Ok, Err}
use Rattle.zab_epoch.specs.declared.message.Message.{Message}
use Rattle.zab_broadcast.specs.Calls.{is_taken}
use Rattle.zab_broadcast.specs.Rules as rules
use Rattle.zab_broadcast.specs.Rules.{is_serving}
use Rattle.zab_model.specs.declared.event.Event.{Event}
use Rattle.zab_model.specs.declared.fault.WorldFault.{WorldFault}
use Rattle.zab_model.specs.declared.used_tags.UsedTags.{UsedTags}
use Rattle.zab_model.specs.ProcessStates.{ProcessState}
use Rattle.zab_model.specs.Worlds.{World, Profile, world, new_world, running, message_at, acts, arrives, follows}
use Rattle.zab_model.specs.Runs.{after, run}
use Rattle.zab_host_laws.specs.Recovery.{restart_events}

-- the hosts' servers, and all messages that were sent; no tags
abbrev pub Network : Type 0 → Type 0
Network C = World C

abbrev pub with_tags : {C : Type 0} → UsedTags → Network C → World C
with_tags tags c = world c.servers c.messages tags

abbrev pub new_network : {C : Type 0} → ℕ → Network C
new_network servers = new_world servers

-- a step of one host
pub data Step (C : Type 0) : Type 0 where
  -- it receives a message that was sent to it
  Receives : (message : Message C) → Step C
  -- a client's call, a client's sync
  Submits : (server : ℕ) (call : C) → Step C
  Syncs : (server tag : ℕ) → Step C
  -- the election's result
  Leads : (server : ℕ) → Step C
  Follows : (server leader : ℕ) → Step C
  -- it restarts on what it has stored
  Restarts : (server : ℕ) → Step C

abbrev pub submits_at : {C : Type 0} → Profile C → Network C → ℕ → C → Result ProcessState WorldFault → Network C
submits_at profile c number call (Ok it) = if is_serving it.state.peer.role then (acts c number (λ state. rules.submit profile.setting state call) (Ok it)).0 else c
submits_at profile c number call (Err fault) = c

abbrev pub syncs_at : {C : Type 0} → Network C → ℕ → ℕ → Result ProcessState WorldFault → Network C
syncs_at c number tag (Ok it) = if is_serving it.state.peer.role then (acts c number (λ state. rules.sync state tag) (Ok it)).0 else c
syncs_at c number tag (Err fault) = c

-- the network after a step: the host's server acts by Zab's rule, and its messages are sent
abbrev pub after_step : {C : Type 0} → Profile C → Network C → Step C → Network C
after_step profile c (Receives message) = (arrives profile.setting c (Some message)).0
after_step profile c (Submits number call) = submits_at profile c number call (running c.servers number)
after_step profile c (Syncs number tag) = syncs_at c number tag (running c.servers number)
after_step profile c (Leads number) = (acts c number rules.lead (running c.servers number)).0
after_step profile c (Follows number leader) = (follows c number leader).0
after_step profile c (Restarts number) = after profile c (restart_events number)

-- the message was sent; no earlier call or sync has the tag
abbrev pub MayStep : {C : Type 0} → Profile C → Network C → List ℕ → List ℕ → Step C → Type 0
MayStep profile c calls syncs (Receives message) = (number : ℕ) × (message_at c.messages number ≡ Some message)
MayStep profile c calls syncs (Submits number call) = is_taken (profile.setting.tag call) calls ≡ false
MayStep profile c calls syncs (Syncs number tag) = is_taken tag syncs ≡ false
MayStep profile c calls syncs step = Unit {0}

abbrev pub calls_after : {C : Type 0} → Profile C → List ℕ → Step C → List ℕ
calls_after profile calls (Submits number call) = calls ++ profile.setting.tag call ∷ []
calls_after profile calls step = calls

abbrev pub syncs_after : {C : Type 0} → List ℕ → Step C → List ℕ
syncs_after syncs (Syncs number tag) = syncs ++ tag ∷ []
syncs_after syncs step = syncs

abbrev pub after_steps : {C : Type 0} → Profile C → Network C → List (Step C) → Network C
after_steps profile c [] = c
after_steps profile c (step ∷ steps) = after_steps profile (after_step profile c step) steps

abbrev pub MayStepAll : {C : Type 0} → Profile C → Network C → List ℕ → List ℕ → List (Step C) → Type 0
MayStepAll profile c calls syncs [] = Unit {0}
MayStepAll profile c calls syncs (step ∷ steps) =
    MayStep profile c calls syncs step × MayStepAll profile (after_step profile c step) (calls_after profile calls step) (syncs_after syncs step) steps

-- All steps of hosts that receive only what was sent, in any order and with any restarts: the
-- hosts' servers and messages are those of a run.
abbrev pub HostsAreARun : {C : Type 0} → Profile C → Type 0
HostsAreARun {C} profile = (servers : ℕ) (steps : List (Step C)) → MayStepAll profile (new_network servers) [] [] steps
    → (events : List (Event C)) × (tags : UsedTags) × ((run profile servers events).0 ≡ with_tags tags (after_steps profile (new_network servers) steps))
