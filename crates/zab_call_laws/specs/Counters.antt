-- Counters that are used up: a zxid has 32 bits for them. ZooKeeper Programmer's Guide, "Time in
-- ZooKeeper".
use Rattle.std.specs.Prelude.{◌≡◌, ℕ, false, Err}
use Rattle.zab_broadcast.specs.Calls.{Setting, is_taken}
use Rattle.zab_broadcast.specs.Rules.{Acts, submit, request}
use Rattle.zab_broadcast.specs.declared.state.State.{State}
use Rattle.zab_epoch.specs.declared.rule_fault.RuleFault.TheVariants as faults
use Rattle.zab_epoch.specs.declared.role.Role.TheVariants.{Looking, Broadcast}

-- a leader in broadcast that has made an entry in its epoch for each counter
pub record IsFull (state : State) : Type 0 where
  pub leads : state.peer.role ≡ Broadcast
  pub made : state.made ≡ 4294967295

-- it leads no more, and nothing else changes
abbrev pub stopped : {C : Type 0} → State → Acts C
stopped state = (record state { peer = record state.peer { role = Looking } }, Err faults.EpochFull)

abbrev pub SubmitsStopFullLeaders : {C : Type 0} → Setting C → Type 0
SubmitsStopFullLeaders {C} setting = (state : State) (call : C) → IsFull state → submit setting state call ≡ stopped state

abbrev pub RequestsStopFullLeaders : {C : Type 0} → Setting C → Type 0
RequestsStopFullLeaders {C} setting =
    (state : State) (epoch : ℕ) (call : C) → IsFull state → epoch ≡ state.peer.stable.promised → is_taken (setting.tag call) state.taken ≡ false
    → request setting state epoch call ≡ stopped state
