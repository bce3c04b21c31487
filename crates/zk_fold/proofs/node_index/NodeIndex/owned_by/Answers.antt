use Rattle.std.proofs.Common.{◌≡◌, List, ℕ, IfOk, w64, sym, ap, subst, ◌∙◌}
use Rattle.std.proofs.lemmas.Int.{to_z-of_z}
use Rattle.std.specs.FinMap as finite
use Rattle.zk_table.specs.States.{owned_by}
use Rattle.zk_tree.specs.Owners.{set_at, set_found}
use Rattle.zk_tree.proofs.Listed.{owned_listed, owned_there}
use Rattle.zk_tree.proofs.Lists.{keys-empty}
use Rattle.zk_fold.specs.Slots.{nodes_at}
use Rattle.zk_fold.proofs.Counting.{kept_paths}
use Rattle.zk_fold.proofs.node_index.NodeIndex.owned_by.Goals as goal

pub paths_of-requires : goal.paths_of-requires
paths_of-requires c =
    let found : set_found (finite.get c.self.inside.owners c.args.session) ≡ c.in-Some.set.now = ap (set_at c.self.inside.owners) (sym (to_z-of_z w64 c.args.session c.ranges.session)) ∙ ap set_found (sym c.in-Some.ensures) in
    kept_paths c.self.inside.places c.in-Some.set.now c.self.invariant.0 (λ path noted. owned_there (nodes_at c.self.inside.places) c.self.inside.owners c.args.session path c.self.invariant.1 (ap (λ s. finite.contains_key s path) found ∙ noted))

pub returns-in-Some : goal.returns-in-Some
returns-in-Some c = record {
  paths = subst (λ (ks : List (List ℕ)). IfOk c.paths_of.result (λ paths. paths.items ≡ ks))
      (ap (λ x. finite.keys (set_found x)) c.in-Some.ensures
      ∙ ap (λ s. finite.keys (set_at c.self.inside.owners s)) (to_z-of_z w64 c.args.session c.ranges.session)
      ∙ owned_listed (nodes_at c.self.inside.places) c.self.inside.owners c.args.session c.self.invariant.1
      ∙ ap (λ m. owned_by m c.args.session) c.self.view_is)
      c.paths_of.ensures;
}

pub returns-in-None : goal.returns-in-None
returns-in-None c = record {
  paths = c.new.ensures.items
      ∙ sym keys-empty
      ∙ ap (λ x. finite.keys (set_found x)) c.in-None.ensures
      ∙ ap (λ s. finite.keys (set_at c.self.inside.owners s)) (to_z-of_z w64 c.args.session c.ranges.session)
      ∙ owned_listed (nodes_at c.self.inside.places) c.self.inside.owners c.args.session c.self.invariant.1
      ∙ ap (λ m. owned_by m c.args.session) c.self.view_is;
}
