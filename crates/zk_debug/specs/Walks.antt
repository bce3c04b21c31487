-- A machine that moves along a list of transactions, with the undo records of its steps.
use Rattle.std.specs.Prelude.{◌≡◌, ◌+◌, ◌≤◌, ℕ, List, [], ◌∷◌, ◌++◌, Bool, false, Some, length, slice_get, refl}
use Rattle.std.specs.Coded.{Coded, code_by, coded×, coded_list, coded_ℕ, coded_bool}
use Rattle.zk_machine.specs.declared.applied.Applied.{Applied}
use Rattle.zk_machine.specs.Changes.{changes_of}
use Rattle.zk_machine.specs.Machines.{MachineView}
use Rattle.zk_machine.specs.Undoing.{IsState, restored}
use Rattle.zk_table.specs.declared.txn.Txn.{Txn}
use Rattle.zk_table.specs.declared.node.Node.{Node}
use Rattle.zk_table.specs.States.{State, state_code}
use Rattle.zk_table.specs.Steps.{step}
use Rattle.zk_debug.specs.Debugging.{state_at, machine_at}

pub record Walk : Type 0 where
  pub base : State
  pub txns : List Txn
  pub place : ℕ
  -- nothing else is specified of a walk that has failed
  pub failed : Bool

abbrev pub walk_code : Coded Node → Coded Txn → Coded Walk
walk_code node txn = code_by (State × (List Txn × (ℕ × Bool))) (coded× (state_code node) (coded× (coded_list txn) (coded× coded_ℕ coded_bool))) (λ w. (w.base, (w.txns, (w.place, w.failed)))) (λ p. record { base = p.0; txns = p.1.0; place = p.1.1.0; failed = p.1.1.1 }) (λ _. refl)

-- the stored step from one place to the next
pub record IsStepFrom (base : State) (txns : List Txn) (place : ℕ) (applied : Applied) : Type 0 where
  pub txn : Txn
  pub found : slice_get txns place ≡ Some txn
  pub result : applied.result ≡ (step (state_at base txns place) txn).1
  pub changes : applied.changes.items ≡ changes_of (state_at base txns place) txn
  pub last_step : applied.undo.step ≡ place + 1
  pub undone : restored applied.undo (state_at base txns (place + 1)) ≡ state_at base txns place
  pub stands : IsState (state_at base txns place).nodes

-- a machine applied a transaction, and its result, changes and undo record are appended to those of
-- earlier steps
pub record TakesStep (before : MachineView) (txn : Txn) (after : MachineView) (steps steps' : List Applied) : Type 0 where
  pub applied : Applied
  pub kept : steps' ≡ steps ++ applied ∷ []
  pub stepped : (after.state, applied.result) ≡ step before.state txn
  pub changes : applied.changes.items ≡ changes_of before.state txn
  pub last_step : applied.undo.step ≡ after.steps
  pub undone : restored applied.undo after.state ≡ before.state
  pub stands : IsState before.state.nodes
  pub counted : after.steps ≡ before.steps + 1
  pub ran : after.failed ≡ false

-- the machine is at the place, and each step to it is stored
pub record IsWalkTo (base : State) (txns : List Txn) (place : ℕ) (machine : MachineView) (steps : List Applied) : Type 0 where
  pub at_place : machine ≡ machine_at base txns place
  pub counted : length steps ≡ place
  pub kept : (at : ℕ) (applied : Applied) → slice_get steps at ≡ Some applied → IsStepFrom base txns at applied

pub record IsWalk (base : MachineView) (txns : List Txn) (place : ℕ) (failed : Bool) (machine : MachineView) (steps : List Applied) : Type 0 where
  -- the base is a machine that a move back to the start copies
  pub founded : base.failed ≡ false
  pub within : place ≤ length txns
  pub stands : failed ≡ false → IsWalkTo base.state txns place machine steps
