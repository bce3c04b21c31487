use Rattle.zab_world.proofs.world.World.mover.Goals as goal

pub returns : goal.returns
returns g c = rw (← c.self.view_is) (c.mover.ensures c.self.inside.places c.self.inside.tags)
