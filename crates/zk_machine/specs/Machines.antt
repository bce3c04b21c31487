-- A machine: a state, and the number of transactions that led to it.
use Rattle.std.specs.Prelude.{ℕ, Bool, refl}
use Rattle.std.specs.Coded.{Coded, code_by, coded×, coded_ℕ, coded_bool}
use Rattle.zk_table.specs.declared.node.Node.{Node}
use Rattle.zk_table.specs.States.{State, state_code}

pub record MachineView : Type 0 where
  pub state : State
  -- the number of transactions that were applied and not undone
  pub steps : ℕ
  -- nothing else is specified of a machine that has failed
  pub failed : Bool

abbrev pub machine_code : Coded Node → Coded MachineView
machine_code node = code_by (State × (ℕ × Bool)) (coded× (state_code node) (coded× coded_ℕ coded_bool)) (λ m. (m.state, (m.steps, m.failed))) (λ p. record { state = p.0; steps = p.1.0; failed = p.1.1 }) (λ _. refl)
