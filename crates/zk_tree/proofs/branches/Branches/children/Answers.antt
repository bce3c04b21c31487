use Rattle.std.proofs.Common.{◌≡◌, ◌&&◌, is_some, List, ℕ, IfOk, subst, sym, ap, ◌∙◌}
use Rattle.std.specs.FinMap as finite
use Rattle.zk_table.specs.States.{path_cmp, children_of, is_child_of}
use Rattle.zk_tree.specs.Branches.{nodes_of}
use Rattle.zk_tree.proofs.Branching.{contains_key-nodes_of, nobody, kept_children}
use Rattle.zk_tree.proofs.Lists.{children_listed, keys-empty}
use Rattle.zk_tree.proofs.branches.Branches.children.Goals as goal

pub paths_of-requires : goal.paths_of-requires
paths_of-requires c = kept_children c.self.inside.slots c.args.path.now c.in-Some.slot.now c.self.invariant (sym c.in-Some.ensures)

pub returns-in-Some : goal.returns-in-Some
returns-in-Some c =
    subst (λ (ks : List (List ℕ)). IfOk c.paths_of.result (λ paths. paths.items ≡ ks))
    (children_listed c.in-Some.slot.now.children (nodes_of c.self.inside.slots) c.args.path.now (λ q. c.self.invariant.children c.args.path.now c.in-Some.slot.now (sym c.in-Some.ensures) q ∙ ap (λ b. is_child_of c.args.path.now q && b) (sym (contains_key-nodes_of c.self.inside.slots q)))
    ∙ ap (λ m. children_of m c.args.path.now) c.self.view_is)
    c.paths_of.ensures

pub returns-in-None : goal.returns-in-None
returns-in-None c =
    c.new.ensures.items
    ∙ sym keys-empty
    ∙ children_listed finite.empty (nodes_of c.self.inside.slots) c.args.path.now (λ q. ap is_some (finite.get-empty path_cmp q) ∙ sym (nobody c.self.inside.slots c.self.invariant c.args.path.now (sym c.in-None.ensures) q) ∙ ap (λ b. is_child_of c.args.path.now q && b) (sym (contains_key-nodes_of c.self.inside.slots q)))
    ∙ ap (λ m. children_of m c.args.path.now) c.self.view_is
