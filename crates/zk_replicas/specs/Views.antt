-- What is visible of a server's tree, results and watches.
use Rattle.std.specs.Prelude.{◌≡◌, false, List, Option, Some, None, IfSome, refl}
use Rattle.std.specs.Coded.{Coded, code_by, coded×, coded_list}
use Rattle.zk_machine.specs.Machines.{MachineView}
use Rattle.zk_model.specs.declared.answer.Answered.{Answered}
use Rattle.zk_model.specs.Ensembles.{ReplicaView}
use Rattle.zk_table.specs.declared.node.Node.{Node}
use Rattle.zk_table.specs.States.{State, start_state, state_code}
use Rattle.zk_watch.specs.declared.watch.Fired.{Fired}
use Rattle.zk_watch.specs.declared.watch.Watch.{Watch}

abbrev pub shown_code : Coded Node → Coded Answered → Coded Watch → Coded Fired → Coded ReplicaView
shown_code node answered watch fired =
    code_by (State × (List Answered × (List Watch × List Fired))) (coded× (state_code node) (coded× (coded_list answered) (coded× (coded_list watch) (coded_list fired)))) (λ s. (s.tree, (s.answers, (s.watches, s.events)))) (λ p. record { tree = p.0; answers = p.1.0; watches = p.1.1.0; events = p.1.1.1 }) (λ _. refl)

-- the tree of a server's machine: one that has delivered nothing since it started may have none
abbrev pub tree_by : Option MachineView → State
tree_by None = start_state
tree_by (Some machine) = machine.state

abbrev pub HasNotFailed : Option MachineView → Type 0
HasNotFailed machine = IfSome machine (λ it. it.failed ≡ false)
