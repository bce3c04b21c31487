use Rattle.std.proofs.Common.{is_some, ap, sym, ◌∙◌}
use Rattle.std.specs.FinMap as finite
use Rattle.zk_replay.proofs.Maps.{get-map_of}
use Rattle.zk_replay.proofs.draft_nodes.DraftNodes.contains.Goals as goal

pub returns : goal.returns
returns c = c.contains_key.ensures ∙ ap is_some (sym (get-map_of c.self.inside.map c.args.path.now)) ∙ ap (λ m. finite.contains_key m c.args.path.now) c.self.view_is
