-- Histories: lists of transactions, applied in order.
use Rattle.std.specs.Prelude.{List, [], ◌∷◌}
use Rattle.zk_table.specs.declared.result.TxnResult.{TxnResult}
use Rattle.zk_table.specs.declared.txn.Txn.{Txn}
use Rattle.zk_table.specs.States.{State, start_state}
use Rattle.zk_table.specs.Steps.{step}

abbrev pub state_after : State → List Txn → State
state_after state [] = state
state_after state (txn ∷ txns) = state_after (step state txn).0 txns

abbrev pub results_after : State → List Txn → List TxnResult
results_after state [] = []
results_after state (txn ∷ txns) = (step state txn).1 ∷ results_after (step state txn).0 txns

-- the state after a list of transactions
abbrev pub tree_of : List Txn → State
tree_of txns = state_after start_state txns

-- their results
abbrev pub results_of : List Txn → List TxnResult
results_of txns = results_after start_state txns
