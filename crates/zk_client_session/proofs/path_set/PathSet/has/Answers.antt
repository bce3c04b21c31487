use Rattle.std.proofs.Common.{ap, sym, ◌∙◌}
use Rattle.std.specs.FinMap as finite
use Rattle.zk_tree.proofs.Kept.{contains-set_of}
use Rattle.zk_client_session.proofs.path_set.PathSet.has.Goals as goal

pub returns : goal.returns
returns c = c.contains.ensures ∙ sym (contains-set_of c.self.inside.texts c.args.path.now) ∙ ap (λ s. finite.contains_key s c.args.path.now) c.self.view_is
