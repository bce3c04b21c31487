use Rattle.std.proofs.Common.{◌≡◌, List, ℕ, IfOk, w64, sym, ap, subst, ◌∙◌}
use Rattle.std.proofs.lemmas.Int.{to_z-of_z}
use Rattle.std.specs.FinMap as finite
use Rattle.zk_table.specs.States.{owned_by}
use Rattle.zk_tree.specs.Owners.{set_at, set_found}
use Rattle.zk_tree.proofs.Listed.{owned_listed, owned_there}
use Rattle.zk_tree.proofs.Lists.{keys-empty}
use Rattle.zk_tree.proofs.tree.Tree.owned_by.Goals as goal

pub paths_of-requires : goal.paths_of-requires
paths_of-requires c =
    let found : set_found (finite.get c.self.inside.owners c.args.session) ≡ c.in-Some.set.now = ap (set_at c.self.inside.owners) (sym (to_z-of_z w64 c.args.session c.ranges.session)) ∙ ap set_found (sym c.in-Some.ensures) in
    λ path noted. owned_there c.self.inside.branches c.self.inside.owners c.args.session path c.self.invariant (ap (λ s. finite.contains_key s path) found ∙ noted)

pub returns-in-Some-clause-paths : goal.returns-in-Some-clause-paths
returns-in-Some-clause-paths c =
    subst (λ (ks : List (List ℕ)). IfOk c.paths_of.result (λ paths. paths.items ≡ ks))
    (ap (λ x. finite.keys (set_found x)) c.in-Some.ensures
    ∙ ap (λ s. finite.keys (set_at c.self.inside.owners s)) (to_z-of_z w64 c.args.session c.ranges.session)
    ∙ owned_listed c.self.inside.branches c.self.inside.owners c.args.session c.self.invariant
    ∙ ap (λ m. owned_by m c.args.session) c.self.view_is)
    c.paths_of.ensures

pub returns-in-None-clause-paths : goal.returns-in-None-clause-paths
returns-in-None-clause-paths c =
    c.new.ensures.items
    ∙ sym keys-empty
    ∙ ap (λ x. finite.keys (set_found x)) c.in-None.ensures
    ∙ ap (λ s. finite.keys (set_at c.self.inside.owners s)) (to_z-of_z w64 c.args.session c.ranges.session)
    ∙ owned_listed c.self.inside.branches c.self.inside.owners c.args.session c.self.invariant
    ∙ ap (λ m. owned_by m c.args.session) c.self.view_is
