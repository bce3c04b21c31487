-- The forward-only table: a state, and whether it has failed.
use Rattle.std.specs.Prelude.{Bool, refl}
use Rattle.std.specs.Coded.{Coded, code_by, coded×, coded_bool}
use Rattle.zk_table.specs.declared.node.Node.{Node}
use Rattle.zk_table.specs.States.{State, state_code}

pub record FoldView : Type 0 where
  pub state : State
  -- a table that has failed rejects every transaction
  pub failed : Bool

abbrev pub fold_code : Coded Node → Coded FoldView
fold_code node = code_by (State × Bool) (coded× (state_code node) coded_bool) (λ t. (t.state, t.failed)) (λ p. record { state = p.0; failed = p.1 }) (λ _. refl)
