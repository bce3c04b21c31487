use Rattle.std.proofs.Common.{sym, ap, ◌∙◌}
use Rattle.zk_ensemble.specs.Views.{server_of}
use Rattle.zk_ensemble.proofs.ensemble.Ensemble.server_of.Goals as goal

pub returns-in-World : goal.returns-in-World
returns-in-World c = rw (← c.self.view_is) (c.mover.ensures ∙ sym (ap (server_of c.self.inside.world.world) c.in-World.is))
