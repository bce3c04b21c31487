use Rattle.std.proofs.Common.{w64, int_cmp, ap, sym, ◌∙◌}
use Rattle.std.proofs.lemmas.Int.{to_z-of_z}
use Rattle.std.specs.BTreeMap as tree
use Rattle.std.specs.FinMap as finite
use Rattle.zk_tree.proofs.Kept.{get-sessions}
use Rattle.zk_fold.proofs.owners.Owners.get.Goals as goal

pub returns : goal.returns
returns c =
    c.get.ensures.value
    ∙ ap (λ s. tree.get_by (int_cmp s) c.self.inside.sets) (to_z-of_z w64 c.args.session c.ranges.session)
    ∙ sym (get-sessions c.self.inside.sets c.args.session)
    ∙ ap (λ m. finite.get m c.args.session) c.self.view_is
