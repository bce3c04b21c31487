use Rattle.std.proofs.Common.{rules, ◌≡◌, inr, refl, sym, ap, ◌∙◌}
use Rattle.zk_model.specs.Ensembles.{fresh}
use Rattle.zk_replicas.proofs.Unwatched.{same_shown}
use Rattle.zk_replicas.proofs.replica.Replica.go_on.Goals as goal

pub returns-clause-goes_on : goal.returns-clause-goes_on
returns-clause-goes_on c =
    let unbegun : c.args.self.now ≡ fresh = c.is_unbegun.ensures (search rules) in
    inr (record {
      it = c.in-Some.field-0;
      was = sym c.take.ensures.value ∙ c.in-Some.is;
      unbegun = unbegun;
      many = search rules;
      within = search rules;
      now = same_shown _ _ _ _ _ _ _ _ refl refl (ap (λ v. v.watches) (c.self.view_is ∙ unbegun)) (ap (λ v. v.events) (c.self.view_is ∙ unbegun));
    })
