use Rattle.std.proofs.Common.{ap, ◌∙◌}
use Rattle.std.specs.FinMap as finite
use Rattle.zk_replay.proofs.draft_nodes.DraftNodes.remove_path.Goals as goal

pub returns : goal.returns
returns c = c.remove.ensures.rest ∙ ap (finite.remove c.args.self.now) c.text.ensures.text
