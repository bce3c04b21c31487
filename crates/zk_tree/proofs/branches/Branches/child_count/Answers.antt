use Rattle.std.proofs.Common.{◌&&◌, length, is_some, sym, ap, ◌∙◌}
use Rattle.std.specs.FinMap as finite
use Rattle.zk_table.specs.States.{path_cmp, children_of, is_child_of}
use Rattle.zk_tree.specs.Branches.{nodes_of}
use Rattle.zk_tree.proofs.Branching.{contains_key-nodes_of, nobody}
use Rattle.zk_tree.proofs.Lists.{children_counted}
use Rattle.zk_tree.proofs.branches.Branches.child_count.Goals as goal

pub returns-in-Some : goal.returns-in-Some
returns-in-Some c =
    c.len.ensures
    ∙ children_counted c.in-Some.slot.now.children (nodes_of c.self.inside.slots) c.args.path.now (λ q. c.self.invariant.children c.args.path.now c.in-Some.slot.now (sym c.in-Some.ensures) q ∙ ap (λ b. is_child_of c.args.path.now q && b) (sym (contains_key-nodes_of c.self.inside.slots q)))
    ∙ ap (λ m. length (children_of m c.args.path.now)) c.self.view_is

pub returns-in-None : goal.returns-in-None
returns-in-None c =
    sym (finite.len-empty path_cmp (Unit {0}))
    ∙ children_counted finite.empty (nodes_of c.self.inside.slots) c.args.path.now (λ q. ap is_some (finite.get-empty path_cmp q) ∙ sym (nobody c.self.inside.slots c.self.invariant c.args.path.now (sym c.in-None.ensures) q) ∙ ap (λ b. is_child_of c.args.path.now q && b) (sym (contains_key-nodes_of c.self.inside.slots q)))
    ∙ ap (λ m. length (children_of m c.args.path.now)) c.self.view_is
