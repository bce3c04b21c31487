use Rattle.std.proofs.Common.{◌&&◌, length, sym, ap, ◌∙◌}
use Rattle.std.specs.FinMap as finite
use Rattle.std.specs.Option.{option_map}
use Rattle.zk_table.specs.States.{children_of, is_child_of}
use Rattle.zk_tree.specs.Branches.{nodes_of}
use Rattle.zk_tree.proofs.Branching.{get-nodes_of, contains_key-nodes_of}
use Rattle.zk_tree.proofs.Lists.{children_counted}
use Rattle.zk_tree.proofs.branches.Branches.counted.Goals as goal

pub returns-in-Some-clause-node : goal.returns-in-Some-clause-node
returns-in-Some-clause-node c =
    ap (option_map (λ s. s.node)) c.in-Some.ensures
    ∙ sym (get-nodes_of c.self.inside.slots c.args.path.now)
    ∙ ap (λ m. finite.get m c.args.path.now) c.self.view_is

pub returns-in-Some-clause-count : goal.returns-in-Some-clause-count
returns-in-Some-clause-count c =
    c.len.ensures
    ∙ children_counted c.in-Some.slot.now.children (nodes_of c.self.inside.slots) c.args.path.now (λ q. c.self.invariant.children c.args.path.now c.in-Some.slot.now (sym c.in-Some.ensures) q ∙ ap (λ b. is_child_of c.args.path.now q && b) (sym (contains_key-nodes_of c.self.inside.slots q)))
    ∙ ap (λ m. length (children_of m c.args.path.now)) c.self.view_is

pub returns-in-None-clause-node : goal.returns-in-None-clause-node
returns-in-None-clause-node c =
    ap (option_map (λ s. s.node)) c.in-None.ensures
    ∙ sym (get-nodes_of c.self.inside.slots c.args.path.now)
    ∙ ap (λ m. finite.get m c.args.path.now) c.self.view_is
