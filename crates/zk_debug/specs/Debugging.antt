-- A debugger: a base, a list of transactions, a place in it, and numbered breakpoints. A definition
-- of this project.
use Rattle.std.specs.Prelude.{◌≡◌, ◌<◌, ◌≤◌, ◌+◌, ◌-◌, nat_lt, if◌then◌else◌, ℕ, zero, suc, ℤ, pos, List, Bool, true, false, Option, Some, None, option_map, length, take, filter, slice_get, int_le, refl}
use Rattle.std.specs.Coded.{Coded, code_by, coded×, coded_list, coded_ℕ, coded_bool}
use Rattle.std.specs.FinMap as finite
use Rattle.std.specs.FinMap.{FinMap, entries}
use Rattle.std.specs.List.{find}
use Rattle.std.specs.Option.{option_map_or}
use Rattle.std.specs.Ordering.{nat_cmp}
use Rattle.zk_machine.specs.declared.change.Change.{Change}
use Rattle.zk_machine.specs.Changes.{changes_of}
use Rattle.zk_machine.specs.Machines.{MachineView}
use Rattle.zk_table.specs.declared.result.TxnResult.{TxnResult}
use Rattle.zk_table.specs.declared.txn.Txn.{Txn}
use Rattle.zk_table.specs.declared.node.Node.{Node}
use Rattle.zk_table.specs.Histories.{state_after}
use Rattle.zk_table.specs.States.{State, state_code}
use Rattle.zk_table.specs.Steps.{step}
use Rattle.zk_debug.specs.Breakpoints.{is_met}
use Rattle.zk_debug.specs.declared.breakpoint.Breakpoint.{Breakpoint}
use Rattle.zk_debug.specs.declared.debug_fault.DebugFault.{DebugFault}
use Rattle.zk_debug.specs.declared.debug_fault.DebugFault.TheVariants as faults
use Rattle.zk_debug.specs.declared.stop.Stop.{Stop}

-- ---- places of a log: a place is a number of applied transactions

-- the state after the first `place` transactions, from the base
abbrev pub state_at : State → List Txn → ℕ → State
state_at base txns place = state_after base (take place txns)

-- a machine in that state
abbrev pub machine_at : State → List Txn → ℕ → MachineView
machine_at base txns place = record { state = state_at base txns place; steps = place; failed = false }

-- the transaction just before a place; None at the start
abbrev pub txn_at : List Txn → ℕ → Option Txn
txn_at txns zero = None
txn_at txns (suc before) = slice_get txns before

-- its result
abbrev pub result_at : State → List Txn → ℕ → Option TxnResult
result_at base txns place = option_map (λ txn. (step (state_at base txns (place - 1)) txn).1) (txn_at txns place)

-- its changes
abbrev pub changes_at : State → List Txn → ℕ → Option (List Change)
changes_at base txns place = option_map (changes_of (state_at base txns (place - 1))) (txn_at txns place)

-- its zxid; at the start that of the base
abbrev pub zxid_at : State → List Txn → ℕ → ℤ
zxid_at base txns place = option_map_or (λ txn. txn.zxid) (txn_at txns place) base.last

-- ---- breakpoints

pub record Breakpoints : Type 0 where
  -- the breakpoints that are set, by number
  pub standing : FinMap nat_cmp Breakpoint
  -- how many were ever set; each was given this count, including itself, as its number
  pub numbered : ℕ

-- a transaction, applied to this state, matches a breakpoint
abbrev pub meets : State → Txn → Breakpoint → Bool
meets before txn breakpoint = is_met txn (step before txn).1.err (changes_of before txn) breakpoint

-- the lowest number of a breakpoint that passes a test, since a map's entries are sorted
abbrev pub lowest_by : (Breakpoint → Bool) → FinMap nat_cmp Breakpoint → Option ℕ
lowest_by test standing = option_map (λ e. e.0) (find (λ e. test e.1) (entries standing))

abbrev pub hit_by : State → FinMap nat_cmp Breakpoint → Option Txn → Option ℕ
hit_by before standing None = None
hit_by before standing (Some txn) = lowest_by (meets before txn) standing

-- ---- a debugger

pub record Debugging : Type 0 where
  -- the state that the log continues; of a single log the start state
  pub base : State
  pub txns : List Txn
  pub place : ℕ
  pub breakpoints : Breakpoints
  -- an allocation failed in a move or in a reset
  pub failed : Bool

-- a debugger at the start, without breakpoints
abbrev pub started : State → List Txn → Debugging
started base txns = record { base = base; txns = txns; place = 0; breakpoints = record { standing = finite.empty; numbered = 0 }; failed = false }

abbrev pub breakpoints_code : Coded Breakpoint → Coded Breakpoints
breakpoints_code breakpoint =
    code_by (FinMap nat_cmp Breakpoint × ℕ) (coded× (finite.code coded_ℕ breakpoint) coded_ℕ) (λ b. (b.standing, b.numbered)) (λ p. record { standing = p.0; numbered = p.1 }) (λ _. refl)

abbrev pub debugging_code : Coded Node → Coded Txn → Coded Breakpoint → Coded Debugging
debugging_code node txn breakpoint =
    code_by (State × (List Txn × (ℕ × (Breakpoints × Bool)))) (coded× (state_code node) (coded× (coded_list txn) (coded× coded_ℕ (coded× (breakpoints_code breakpoint) coded_bool)))) (λ d. (d.base, (d.txns, (d.place, (d.breakpoints, d.failed))))) (λ p. record { base = p.0; txns = p.1.0; place = p.1.1.0; breakpoints = p.1.1.1.0; failed = p.1.1.1.1 }) (λ _. refl)

-- the lowest number of a breakpoint that a place matches
abbrev pub hit_at : Debugging → ℕ → Option ℕ
hit_at d place = hit_by (state_at d.base d.txns (place - 1)) d.breakpoints.standing (txn_at d.txns place)

abbrev pub moved : Debugging → ℕ → Debugging
moved d place = record d { place = place }

abbrev pub broken : Debugging → Debugging
broken d = record d { failed = true }

-- ---- moves

-- the debugger is at the place of the stop, with the breakpoint that the place matches
pub record Moves (old : Debugging) (stop : Stop) (new : Debugging) : Type 0 where
  pub ran : old.failed ≡ false
  pub within : stop.place ≤ length old.txns
  pub to : new ≡ moved old stop.place
  pub hit : stop.hit ≡ hit_at old stop.place

-- the first later place that matches a breakpoint, or the end
pub record IsRunTo (d : Debugging) (to : ℕ) : Type 0 where
  pub above : d.place < to
  pub skips : (place : ℕ) → d.place < place → place < to → hit_at d place ≡ None
  pub stops : hit_at d to ≡ None → to ≡ length d.txns

-- the last earlier place that matches a breakpoint, or the start
pub record IsRunBackTo (d : Debugging) (to : ℕ) : Type 0 where
  pub below : to < d.place
  pub skips : (place : ℕ) → to < place → place < d.place → hit_at d place ≡ None
  pub stops : hit_at d to ≡ None → to ≡ 0

-- `count` places on, or the end
abbrev pub steps_to : Debugging → ℕ → ℕ
steps_to d count = if nat_lt count (length d.txns - d.place) then d.place + count else length d.txns

-- the transactions of at most this zxid
abbrev pub up_to : ℤ → List Txn → List Txn
up_to zxid txns = filter (λ txn. int_le txn.zxid zxid) txns

-- ---- faults

-- the fault of a move forward, from a place before the end
abbrev pub RefusesOn : Debugging → DebugFault → Debugging → Type 0
RefusesOn old faults.Failed new = (old.failed ≡ true) × (new ≡ old)
RefusesOn old faults.AtEnd new = (old.failed ≡ false) × (old.place ≡ length old.txns) × (new ≡ old)
RefusesOn old faults.NoMemory new = (old.failed ≡ false) × (old.place < length old.txns) × (new ≡ broken old)
RefusesOn old fault new = ⊥

-- the fault of a move back, from a place after the start
abbrev pub RefusesBack : Debugging → DebugFault → Debugging → Type 0
RefusesBack old faults.Failed new = (old.failed ≡ true) × (new ≡ old)
RefusesBack old faults.AtStart new = (old.failed ≡ false) × (old.place ≡ 0) × (new ≡ old)
RefusesBack old faults.NoMemory new = (old.failed ≡ false) × (0 < old.place) × (new ≡ broken old)
RefusesBack old fault new = ⊥

-- the fault of a move to any place
abbrev pub RefusesAny : Debugging → DebugFault → Debugging → Type 0
RefusesAny old faults.Failed new = (old.failed ≡ true) × (new ≡ old)
RefusesAny old faults.NoMemory new = (old.failed ≡ false) × (new ≡ broken old)
RefusesAny old fault new = ⊥

-- why a breakpoint is not set: all numbers are used up, or an allocation failed
abbrev pub RefusesSet : Debugging → DebugFault → Type 0
RefusesSet old faults.Full = old.breakpoints.numbered ≡ 65535
RefusesSet old faults.NoMemory = old.breakpoints.numbered < 65535
RefusesSet old fault = ⊥
