use Rattle.std.proofs.Common.{sym, ap, ◌∙◌}
use Rattle.std.specs.FinMap as finite
use Rattle.zk_tree.proofs.Branching.{contains_key-nodes_of, kept_paths}
use Rattle.zk_tree.proofs.branches.Branches.paths_of.Goals as goal

pub paths_of-requires : goal.paths_of-requires
paths_of-requires c =
    kept_paths c.self.inside.slots c.args.set.now c.self.invariant (λ q k. sym (contains_key-nodes_of c.self.inside.slots q) ∙ ap (λ m. finite.contains_key m q) c.self.view_is ∙ c.requires q k)
