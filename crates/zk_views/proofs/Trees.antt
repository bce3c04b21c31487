-- The tree of a list that is one transaction longer.
use Rattle.std.proofs.Common.{◌≡◌, false, List, [], ◌∷◌, ◌++◌, refl, sym, ap, ◌∙◌}
use Rattle.zk_machine.specs.Machines.{MachineView}
use Rattle.zk_table.specs.declared.txn.Txn.{Txn}
use Rattle.zk_table.specs.Histories.{state_after, tree_of}
use Rattle.zk_table.specs.States.{State, start_state}
use Rattle.zk_table.specs.Steps.{step}
use Rattle.zk_views.specs.Machines.{IsMachineOf}

state_after-push : (state : State) (txns : List Txn) (txn : Txn) → state_after state (txns ++ txn ∷ []) ≡ (step (state_after state txns) txn).0
state_after-push state [] txn = refl
state_after-push state (first ∷ txns) txn = state_after-push (step state first).0 txns txn

pub tree_of-push : (txns : List Txn) (txn : Txn) → tree_of (txns ++ txn ∷ []) ≡ (step (tree_of txns) txn).0
tree_of-push txns txn = state_after-push start_state txns txn

-- a machine of a list that takes a transaction more is one of the longer list
pub grown : (txns : List Txn) (txn : Txn) (before after : MachineView) → IsMachineOf txns before → after.state ≡ (step before.state txn).0 → after.failed ≡ false → IsMachineOf (txns ++ txn ∷ []) after
grown txns txn before after is moved runs = record {
  state = moved ∙ (ap (λ (s : State). (step s txn).0) is.state ∙ sym (tree_of-push txns txn));
  runs = runs;
}
