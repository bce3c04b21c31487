use Rattle.std.proofs.Common.{sym, ap, ◌∙◌}
use Rattle.std.specs.FinMap as finite
use Rattle.std.specs.Option.{option_map}
use Rattle.zk_tree.proofs.Branching.{get-nodes_of}
use Rattle.zk_tree.proofs.branches.Branches.entry.Goals as goal

pub returns-in-Some-clause-node : goal.returns-in-Some-clause-node
returns-in-Some-clause-node c =
    ap (option_map (λ s. s.node)) c.in-Some.ensures
    ∙ sym (get-nodes_of c.self.inside.slots c.args.text.now)
    ∙ ap (λ m. finite.get m c.args.text.now) c.self.view_is

pub returns-in-Some-clause-path : goal.returns-in-Some-clause-path
returns-in-Some-clause-path c = c.self.invariant.keyed.paths c.args.text.now c.in-Some.slot.now (sym c.in-Some.ensures)

pub returns-in-None-clause-node : goal.returns-in-None-clause-node
returns-in-None-clause-node c =
    ap (option_map (λ s. s.node)) c.in-None.ensures
    ∙ sym (get-nodes_of c.self.inside.slots c.args.text.now)
    ∙ ap (λ m. finite.get m c.args.text.now) c.self.view_is
