-- What a preparing leader represents: a committed state, and a tail of transactions that are taken
-- but not yet delivered.
use Rattle.std.specs.Prelude.{◌≡◌, Bool, List, refl}
use Rattle.std.specs.Coded.{Coded, code_by, coded×, coded_bool}
use Rattle.zk_table.specs.declared.node.Node.{Node}
use Rattle.zk_table.specs.declared.txn.Txn.{Txn}
use Rattle.zk_table.specs.Histories.{state_after}
use Rattle.zk_table.specs.States.{State, state_code}

pub record PrepView : Type 0 where
  -- the state after all that was taken
  pub state : State
  -- after a failure nothing else is specified
  pub failed : Bool

abbrev pub prep_code : Coded Node → Coded PrepView
prep_code node = code_by (State × Bool) (coded× (state_code node) coded_bool) (λ p. (p.state, p.failed)) (λ p. record { state = p.0; failed = p.1 }) (λ _. refl)

-- of any committed state and tail that lead to this state
abbrev pub StandsFor : PrepView → State → List Txn → Type 0
StandsFor prep committed tail = prep.state ≡ state_after committed tail
