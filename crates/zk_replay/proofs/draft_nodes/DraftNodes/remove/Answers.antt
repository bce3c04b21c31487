use Rattle.std.proofs.Common.{ap, sym, ◌∙◌}
use Rattle.std.specs.FinMap as finite
use Rattle.zk_replay.proofs.Maps.{get-map_of, map_removed}
use Rattle.zk_replay.proofs.draft_nodes.DraftNodes.remove.Goals as goal

pub returns-clause-before : goal.returns-clause-before
returns-clause-before c = c.remove.ensures.value ∙ sym (get-map_of c.self.inside.map c.args.path.now) ∙ ap (λ m. finite.get m c.args.path.now) c.self.view_is

pub returns-clause-rest : goal.returns-clause-rest
returns-clause-rest c = map_removed c.args.path.now c.self.inside.map c.remove.new.self c.remove.ensures.updates ∙ ap (λ m. finite.remove m c.args.path.now) c.self.view_is
