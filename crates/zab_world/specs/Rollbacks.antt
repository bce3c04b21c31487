-- What undoes a step. Own.
use Rattle.std.specs.Prelude.{ℕ, ◌-◌, Bool, false, if◌then◌else◌, List, length, take, set, Option, Some, None, Result, Ok, Err}
use Rattle.zab_epoch.specs.declared.history.Entry.{Entry}
use Rattle.zab_epoch.specs.declared.message.Message.{Message}
use Rattle.zab_broadcast.specs.declared.state.State.{State}
use Rattle.zab_broadcast.specs.Rules.{restored}
use Rattle.zab_model.specs.declared.event.Event.{Event}
use Rattle.zab_model.specs.declared.event.Moved.{Moved}
use Rattle.zab_model.specs.declared.fault.WorldFault.{WorldFault}
use Rattle.zab_model.specs.declared.used_tags.UsedTags.{UsedTags}
use Rattle.zab_model.specs.Movers.{mover}
use Rattle.zab_model.specs.Replacing.{replaces}
use Rattle.zab_model.specs.ProcessStates.{ProcessState, standing}
use Rattle.zab_model.specs.Worlds.{World, Answer, world, spent, server_at, running}
use Rattle.zab_world.specs.declared.rollback.RollbackState.{RollbackState}
use Rattle.zab_world.specs.declared.rollback.Rollback.{Rollback}

-- ---- what is recorded

-- the stable part: the whole history if entries may be removed, otherwise its length
abbrev pub kept_at : Bool → State → RollbackState
kept_at replaced state = record {
  servers = state.peer.servers;
  me = state.peer.me;
  promised = state.peer.stable.promised;
  current = state.peer.stable.current;
  length = length state.peer.stable.history;
  replaced = if replaced then Some state.peer.stable.history else None;
}

abbrev pub note_at : {C : Type 0} → World C → Event C → ProcessState → Rollback
note_at w event it = record {
  server = mover w event;
  kept = kept_at (replaces w event) it.state;
  messages = length w.messages;
  calls = length w.tags.calls;
  syncs = length w.tags.syncs;
}

abbrev pub note_if : {C : Type 0} → World C → Event C → Result ProcessState WorldFault → Option Rollback
note_if w event (Ok it) = Some (note_at w event it)
note_if w event (Err fault) = None

-- the record of an event; none if its server does not run
abbrev pub note_of : {C : Type 0} → World C → Event C → Option Rollback
note_of w event = note_if w event (running w.servers (mover w event))

-- ---- what it restores

-- a history restored from the present one
abbrev pub kept_before : ℕ → Option (List Entry) → List Entry → List Entry
kept_before count None now = take count now
kept_before count (Some replaced) now = replaced

-- the recorded server, crashed
abbrev pub back_of : RollbackState → List Entry → ProcessState
back_of kept now =
    standing false (restored kept.servers kept.me
    (record { promised = kept.promised; current = kept.current; history = kept_before kept.length kept.replaced now }))

abbrev pub fallen_at : {C : Type 0} → List ProcessState → List (Message C) → UsedTags → Rollback → Option ProcessState → Option (World C)
fallen_at servers messages tags note None = None
fallen_at servers messages tags note (Some it) =
    Some (world (set servers (note.server - 1) (back_of note.kept it.state.peer.stable.history)) (take note.messages messages)
    (spent (take note.calls tags.calls) (take note.syncs tags.syncs)))

-- the world in which the recorded server has crashed instead; none without a record
abbrev pub fallen_by : {C : Type 0} → List ProcessState → List (Message C) → UsedTags → Option Rollback → Option (World C)
fallen_by servers messages tags None = None
fallen_by servers messages tags (Some note) = fallen_at servers messages tags note (server_at servers note.server)

-- the answer within a step's result
abbrev pub moved_in : {A : Type 0} → Result (A × Moved) WorldFault → Answer
moved_in (Ok told) = Ok told.1
moved_in (Err fault) = Err fault
