-- Worlds that have discarded their first messages and tags, and worlds that restart on what servers
-- have stored.
use Rattle.std.specs.Prelude.{◌≡◌, ℕ, zero, suc, ◌+◌, true, false, List, [], ◌∷◌, ◌++◌, length, map, Ok, Err}
use Rattle.std.specs.List.{AllByRecursion}
use Rattle.zab_epoch.specs.declared.message.Message.{Message}
use Rattle.zab_broadcast.specs.Calls.{is_taken}
use Rattle.zab_model.specs.declared.event.Event.{Event}
use Rattle.zab_model.specs.declared.event.Event.TheVariants.{Arrive, Submit, Expire, Sync, Crash, Restart}
use Rattle.zab_model.specs.declared.event.Moved.{Moved}
use Rattle.zab_model.specs.ProcessStates.{ProcessState, standing}
use Rattle.zab_model.specs.Worlds.{World, Profile, Answer, world, spent, crashed, happens}
use Rattle.zab_model.specs.Runs.{after, run}

-- what a world has discarded: its first messages, and the tags of the first calls and syncs
pub record Past (C : Type 0) : Type 0 where
  pub messages : List (Message C)
  pub calls : List ℕ
  pub syncs : List ℕ

-- the world before it discarded them
abbrev pub with_past : {C : Type 0} → Past C → World C → World C
with_past past w = world w.servers (past.messages ++ w.messages) (spent (past.calls ++ w.tags.calls) (past.syncs ++ w.tags.syncs))

-- message numbers continue those of the discarded messages; 0 is no number
abbrev pub shift_number : ℕ → ℕ → ℕ
shift_number gone zero = zero
shift_number gone (suc n) = gone + suc n

abbrev pub shift_event : {C : Type 0} → ℕ → Event C → Event C
shift_event gone (Arrive number) = Arrive (shift_number gone number)
shift_event gone event = event

abbrev pub shift_range : ℕ → Moved → Moved
shift_range gone numbers = record { first = shift_number gone numbers.first; count = numbers.count }

abbrev pub shift_answer : ℕ → Answer → Answer
shift_answer gone (Ok numbers) = Ok (shift_range gone numbers)
shift_answer gone (Err fault) = Err fault

-- the event's tag was not discarded
abbrev pub IsNew : {C : Type 0} → Profile C → Past C → Event C → Type 0
IsNew profile past (Submit number call) = is_taken (profile.setting.tag call) past.calls ≡ false
IsNew profile past (Expire number tag session now) = is_taken (profile.setting.tag (profile.closing tag session now)) past.calls ≡ false
IsNew profile past (Sync number tag) = is_taken tag past.syncs ≡ false
IsNew profile past event = Unit {0}

-- an event does the same in the world that has discarded its past
abbrev pub ForgettingIsFaithful : {C : Type 0} → Profile C → Type 0
ForgettingIsFaithful {C} profile = (past : Past C) (w : World C) (event : Event C) → IsNew profile past event
    → happens profile (with_past past w) (shift_event (length past.messages) event)
    ≡ (with_past past (happens profile w event).0, shift_answer (length past.messages) (happens profile w event).1)

-- and so do lists of events
abbrev pub RunsForget : {C : Type 0} → Profile C → Type 0
RunsForget {C} profile = (past : Past C) (w : World C) (events : List (Event C)) → AllByRecursion (IsNew profile past) events
    → after profile (with_past past w) (map (shift_event (length past.messages)) events) ≡ with_past past (after profile w events)

-- ---- all servers restart

-- after these events the server has restarted, whether it was up or down
abbrev pub restart_events : {C : Type 0} → ℕ → List (Event C)
restart_events number = Restart number ∷ Crash number ∷ Restart number ∷ []

-- the same for servers first + 1 and up
abbrev pub restart_events_from : {C : Type 0} → ℕ → ℕ → List (Event C)
restart_events_from first zero = []
restart_events_from first (suc more) = restart_events (suc first) ++ restart_events_from (suc first) more

abbrev pub restart_all : {C : Type 0} → ℕ → List (Event C)
restart_all servers = restart_events_from 0 servers

-- a server that knows its stable part alone
abbrev pub recover_server : ProcessState → ProcessState
recover_server it = standing true (crashed it.state)

-- the world of servers that have restarted on what these had stored, before any message or call
abbrev pub recovered_world : {C : Type 0} → List ProcessState → World C
recovered_world servers = world (map recover_server servers) [] (spent [] [])

-- the discarded past of the recovered world
abbrev pub past_of_world : {C : Type 0} → World C → Past C
past_of_world w = record { messages = w.messages; calls = w.tags.calls; syncs = w.tags.syncs }

-- The recovered world continues the run: it is the world after a crash and a restart of each
-- server, without its past.
abbrev pub RecoveryContinuesTheRun : {C : Type 0} → Profile C → Type 0
RecoveryContinuesTheRun {C} profile = (w : World C) → after profile w (restart_all (length w.servers)) ≡ with_past (past_of_world w) (recovered_world w.servers)

-- The events before and after a recovery are one run: the first ones, a crash and a restart of each
-- server, and the second ones with later message numbers.
abbrev pub events_across_recovery : {C : Type 0} → Profile C → ℕ → List (Event C) → List (Event C) → List (Event C)
events_across_recovery profile servers first second =
    first ++ restart_all (length (run profile servers first).0.servers) ++ map (shift_event (length (run profile servers first).0.messages)) second

abbrev pub RecoveriesAreOneRun : {C : Type 0} → Profile C → Type 0
RecoveriesAreOneRun {C} profile = (servers : ℕ) (first second : List (Event C)) → AllByRecursion (IsNew profile (past_of_world (run profile servers first).0)) second
    → (run profile servers (events_across_recovery profile servers first second)).0
    ≡ with_past (past_of_world (run profile servers first).0) (after profile (recovered_world (run profile servers first).0.servers) second)
