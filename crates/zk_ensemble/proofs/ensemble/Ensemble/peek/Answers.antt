use Rattle.zk_ensemble.proofs.Runs.{peeked}
use Rattle.zk_ensemble.proofs.ensemble.Ensemble.peek.Goals as goal

pub returns : goal.returns
returns c = rw (← c.self.view_is) (λ kept.
    let w = c.self.inside.world.world in
    peeked w c.self.inside.replicas.items c.deref.result.now c.args.question.now c.peek.result c.running.result c.deref.ensures.value c.running.ensures.why c.in_default.is (c.peek.ensures w kept))
